-- Readings whose answer is made of the parts that they read one after another.
use Rattle.std.proofs.Common.{◌≡◌, List, [], ◌++◌, refl, sym, ap, subst, ◌∙◌, append-nil}
use Rattle.text_kit.{specs.Terms.{Item, Reading, ◌>>=◌, give}, proofs.Beginnings.AnyText, proofs.Spelled.Lawful, proofs.Lemmas.{Spelled, law_spelled, spelled_as, spelled_give, spelled_law, spelled_then}}

-- x is made of parts in form
pub record MadeOf {P X : Type 0} (value : P → X) (ok : P → Type 0) (x : X) : Type 0 where
  pub parts : P
  pub right : ok parts
  pub gives : value parts ≡ x

-- and these are their items
pub record Made {P X : Type 0} (value : P → X) (items : P → List Item) (ok : P → Type 0) (x : X) (is : List Item) : Type 0 where
  pub parts : P
  pub right : ok parts
  pub gives : value parts ≡ x
  pub spelled : is ≡ items parts

-- of nothing further
pub made_give : {K X : Type 0} (v : X) → Spelled {K = K} (give v) (λ x is. Made {P = Unit {0}} (λ u. v) (λ u. []) (λ u. Unit {0}) x is) AnyText
made_give {K} {X} v = spelled_as (give v) (λ (x : X) (is : List Item). (v ≡ x) × (is ≡ [])) (λ x is. Made {P = Unit {0}} (λ u. v) (λ u. []) (λ u. Unit {0}) x is) AnyText
    (λ x is s. record { parts = tt; right = tt; gives = s.0; spelled = s.1 })
    (λ x is s. (s.gives, s.spelled))
    (spelled_give {K = K} v)

-- of a part, and what comes after it
pub made_then : {K A B : Type 0} (r : Reading K A) (f : A → Reading K B) (ia : A → List Item) (pa : A → Type 0) (P : A → Type 0) (value : (a : A) → P a → B) (items : (a : A) → P a → List Item) (ok : (a : A) → P a → Type 0)
    → Lawful r ia pa AnyText → ((a : A) → pa a → Spelled (f a) (λ b is. Made (value a) (items a) (ok a) b is) AnyText)
    → Spelled (r >>= f) (λ b is. Made {P = (a : A) × P a} (λ q. value q.0 q.1) (λ q. ia q.0 ++ items q.0 q.1) (λ q. pa q.0 × ok q.0 q.1) b is) AnyText
made_then {K} {A} {B} r f ia pa P value items ok one two =
    spelled_as (r >>= f) _ (λ b is. Made {P = (a : A) × P a} (λ q. value q.0 q.1) (λ q. ia q.0 ++ items q.0 q.1) (λ q. pa q.0 × ok q.0 q.1) b is) AnyText
    (λ b is s. record {
      parts = (s.0, s.4.parts);
      right = (s.3.0, s.4.right);
      gives = s.4.gives;
      spelled = s.5 ∙ (ap (λ (js : List Item). js ++ s.2) s.3.1 ∙ ap (λ (ks : List Item). ia s.0 ++ ks) s.4.spelled);
    })
    (λ b is s. (s.parts.0, ia s.parts.0, items s.parts.0 s.parts.1, (s.right.0, refl), record { parts = s.parts.1; right = s.right.1; gives = s.gives; spelled = refl }, s.spelled))
    (spelled_then r f (λ a js. pa a × (js ≡ ia a)) (λ a b ks. Made (value a) (items a) (ok a) b ks) AnyText (spelled_law r ia pa AnyText one) (λ a js h. two a h.0))

-- of a last part
pub made_last : {K A B : Type 0} (r : Reading K A) (value : A → B) (ia : A → List Item) (pa : A → Type 0) → Lawful r ia pa AnyText → Spelled (r >>= λ a. give (value a)) (λ b is. Made value ia pa b is) AnyText
made_last {K} {A} {B} r value ia pa one =
    spelled_as (r >>= λ a. give (value a)) _ (λ b is. Made value ia pa b is) AnyText
    (λ b is s. record { parts = s.parts.0; right = s.right.0; gives = s.gives; spelled = s.spelled ∙ append-nil (ia s.parts.0) })
    (λ b is s. record { parts = (s.parts, tt); right = (s.right, tt); gives = s.gives; spelled = s.spelled ∙ sym (append-nil (ia s.parts)) })
    (made_then r (λ a. give (value a)) ia pa (λ a. Unit {0}) (λ a u. value a) (λ a u. []) (λ a u. Unit {0}) one (λ a h. made_give {K = K} (value a)))

-- a part as it is
pub made_law : {K X : Type 0} (r : Reading K X) (items : X → List Item) (is : X → Type 0) → Lawful r items is AnyText → Spelled r (λ x js. Made {P = X} (λ y. y) items is x js) AnyText
made_law {K} {X} r items is law = spelled_as r (λ x js. is x × (js ≡ items x)) (λ x js. Made {P = X} (λ y. y) items is x js) AnyText
    (λ x js s. record { parts = x; right = s.0; gives = refl; spelled = s.1 })
    (λ x js s. (subst is s.gives s.right, s.spelled ∙ ap items s.gives))
    (spelled_law r items is AnyText law)

-- what is made so is in form and has these items, and what is in form is made so
pub law_made : {K P X : Type 0} (r : Reading K X) (value : P → X) (each : P → List Item) (ok : P → Type 0) (items : X → List Item) (is : X → Type 0)
    → ((p : P) → ok p → is (value p)) → ((p : P) → ok p → each p ≡ items (value p)) → ((x : X) → is x → MadeOf value ok x)
    → Spelled r (λ x js. Made value each ok x js) AnyText → Lawful r items is AnyText
law_made r value each ok items is to same fro law = law_spelled r items is AnyText
    (spelled_as r (λ x js. Made value each ok x js) (λ x js. is x × (js ≡ items x)) AnyText
    (λ x js s. (subst is s.gives (to s.parts s.right), s.spelled ∙ (same s.parts s.right ∙ ap items s.gives)))
    (λ x js s. let m = fro x s.0 in record { parts = m.parts; right = m.right; gives = m.gives; spelled = s.1 ∙ (ap items (sym m.gives) ∙ sym (same m.parts m.right)) })
    law)
