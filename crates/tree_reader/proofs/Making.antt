-- Readings whose answer is made of the parts that they read, the last of them up to some end.
use Rattle.std.proofs.Common.{◌≡◌, List, [], ◌++◌, Ok, Err, refl, sym, ap, subst, ◌∙◌}
use Rattle.snd_tokens.specs.Terms.{Text}
use Rattle.text_kit.{specs.Terms.{Begins, Item, Read, Reading, after, ◌>>=◌, end_at, give}, proofs.Beginnings.{AnyText, IsEnd}, proofs.Spelled.Lawful, proofs.Lemmas.{Spelled, law_spelled, ok_parts, spelled_as, spelled_law, spelled_then, lawful_end}}
use Rattle.report_words.proofs.Making.{Made, MadeOf}

-- nothing further, up to the end of the line
pub made_end : {K X : Type 0} (other : K) (v : X) → Spelled (end_at other >>= λ _. give v) (λ x is. Made {P = Unit {0}} (λ u. v) (λ u. []) (λ u. Unit {0}) x is) IsEnd
made_end {K} {X} other v = spelled_as (end_at other >>= λ _. give v) (λ (x : X) (is : List Item). (v ≡ x) × (is ≡ [])) (λ x is. Made {P = Unit {0}} (λ u. v) (λ u. []) (λ u. Unit {0}) x is) IsEnd
    (λ x is s. record { parts = tt; right = tt; gives = s.0; spelled = s.1 })
    (λ x is s. (s.gives, s.spelled))
    (spelled_law (end_at other >>= λ _. give v) (λ y. []) (λ y. v ≡ y) IsEnd (lawful_end other v))

-- a part, and what comes after it
pub made_on : {K A B : Type 0} (IsLeft : Text → Type 0) (r : Reading K A) (f : A → Reading K B) (ia : A → List Item) (pa : A → Type 0) (P : A → Type 0) (value : (a : A) → P a → B) (items : (a : A) → P a → List Item) (ok : (a : A) → P a → Type 0)
    → Lawful r ia pa AnyText → ((a : A) → pa a → Spelled (f a) (λ b is. Made (value a) (items a) (ok a) b is) IsLeft)
    → Spelled (r >>= f) (λ b is. Made {P = (a : A) × P a} (λ q. value q.0 q.1) (λ q. ia q.0 ++ items q.0 q.1) (λ q. pa q.0 × ok q.0 q.1) b is) IsLeft
made_on {K} {A} {B} IsLeft r f ia pa P value items ok one two =
    spelled_as (r >>= f) _ (λ b is. Made {P = (a : A) × P a} (λ q. value q.0 q.1) (λ q. ia q.0 ++ items q.0 q.1) (λ q. pa q.0 × ok q.0 q.1) b is) IsLeft
    (λ b is s. record {
      parts = (s.0, s.4.parts);
      right = (s.3.0, s.4.right);
      gives = s.4.gives;
      spelled = s.5 ∙ (ap (λ (js : List Item). js ++ s.2) s.3.1 ∙ ap (λ (ks : List Item). ia s.0 ++ ks) s.4.spelled);
    })
    (λ b is s. (s.parts.0, ia s.parts.0, items s.parts.0 s.parts.1, (s.right.0, refl), record { parts = s.parts.1; right = s.right.1; gives = s.gives; spelled = refl }, s.spelled))
    (spelled_then r f (λ a js. pa a × (js ≡ ia a)) (λ a b ks. Made (value a) (items a) (ok a) b ks) IsLeft (spelled_law r ia pa AnyText one) (λ a js h. two a h.0))

-- a last part
module _ {K A B : Type 0} (IsLeft : Text → Type 0) (r : Reading K A) (value : A → B) (ia : A → List Item) (pa : A → Type 0) (law : Lawful r ia pa IsLeft) where
  final_takes : (text : Text) (q : Read K A) (b : B) (rest : Text) → r text ≡ q → after q (λ a. give {K = K} (value a)) ≡ Ok (b, rest) → (is : List Item) × Made value ia pa b is × Begins is text rest × IsLeft rest
  final_takes text (Ok x) b rest e d =
      let h = law.takes text x.0 x.1 e in
      let p = ok_parts {K = K} (value x.0) b x.1 rest d in
      (ia x.0, record { parts = x.0; right = h.0; gives = p.0; spelled = refl }, subst (λ (t : Text). Begins (ia x.0) text t) p.1 h.1, subst IsLeft p.1 h.2)
  final_takes text (Err c) b rest e d = absurd cc

  final_again : (text : Text) (b : B) (rest : Text) (is : List Item) → Made value ia pa b is → Begins is text rest → IsLeft rest → after (r text) (λ a. give {K = K} (value a)) ≡ Ok (b, rest)
  final_again text b rest is s begins left =
      rw (law.again text s.parts rest s.right (subst (λ (js : List Item). Begins js text rest) s.spelled begins) left) (ap (λ (y : B). Ok (y, rest)) s.gives)

  pub made_final : Spelled (r >>= λ a. give (value a)) (λ b is. Made value ia pa b is) IsLeft
  made_final = record { takes = λ text b rest e. final_takes text (r text) b rest refl e; again = final_again }

-- what is made so is in form and has these items, and what is in form is made so
pub law_made_on : {K P X : Type 0} (IsLeft : Text → Type 0) (r : Reading K X) (value : P → X) (each : P → List Item) (ok : P → Type 0) (items : X → List Item) (is : X → Type 0)
    → ((p : P) → ok p → is (value p)) → ((p : P) → ok p → each p ≡ items (value p)) → ((x : X) → is x → MadeOf value ok x)
    → Spelled r (λ x js. Made value each ok x js) IsLeft → Lawful r items is IsLeft
law_made_on IsLeft r value each ok items is to same fro law = law_spelled r items is IsLeft
    (spelled_as r (λ x js. Made value each ok x js) (λ x js. is x × (js ≡ items x)) IsLeft
    (λ x js s. (subst is s.gives (to s.parts s.right), s.spelled ∙ (same s.parts s.right ∙ ap items s.gives)))
    (λ x js s. let m = fro x s.0 in record { parts = m.parts; right = m.right; gives = m.gives; spelled = s.1 ∙ (ap items (sym m.gives) ∙ sym (same m.parts m.right)) })
    law)
