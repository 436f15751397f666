-- Readings that take exactly the texts whose items spell what they give, where one value may have several spellings.
use Rattle.std.proofs.Common.{◌≡◌, ℕ, zero, suc, ◌<◌, List, [], ◌∷◌, ◌++◌, Option, None, Some, Result, Ok, Err, refl, sym, ap, subst, ◌∙◌, arith, append-nil, append_assoc}
use Rattle.snd_tokens.specs.Terms.{Text, WordAt, OpenAt, CloseAt, EndAt, size}
use Rattle.text_kit.{specs.Items.{ComeAfter, AreSpelled, Item, Verbatim, Opening, Closing, Begins}, specs.Places.place, specs.Reading.{Read, Reading, after, ◌>>=◌, give, placed, word_at, Ending, Parenthesis, past_ending, sound, ended_or, list_at}, proofs.Beginnings.{AnyText, IsLeftBy, Starts, StartsBefore, begins_both, begins_parts, ending_items, ending_takes, ending_again, no_ending, sound_ok, starts_less}, proofs.Online.{at_ending, before_ending, elements, more, ok_parts, placed_ok}}

-- what is read from a text is spelled by items at its beginning, and what such items spell is read
pub record Spelled {K X : Type 0} (r : Reading K X) (Of : X → List Item → Type 0) (IsLeft : Text → Type 0) : Type 0 where
  pub takes : (text : Text) (x : X) (rest : Text) → r text ≡ Ok (x, rest) → (is : List Item) × Of x is × Begins is text rest × IsLeft rest
  pub again : (text : Text) (x : X) (rest : Text) (is : List Item) → Of x is → Begins is text rest → IsLeft rest → r text ≡ Ok (x, rest)

-- what is read from a text is in form and spelled at its beginning, and what is in form and spelled there is read
pub record Lawful {K X : Type 0} (r : Reading K X) (items : X → List Item) (is : X → Type 0) (IsLeft : Text → Type 0) : Type 0 where
  pub takes : (text : Text) (x : X) (rest : Text) → r text ≡ Ok (x, rest) → is x × Begins (items x) text rest × IsLeft rest
  pub again : (text : Text) (x : X) (rest : Text) → is x → Begins (items x) text rest → IsLeft rest → r text ≡ Ok (x, rest)

-- one spelling of each value
pub spelled_law : {K X : Type 0} (r : Reading K X) (items : X → List Item) (is : X → Type 0) (IsLeft : Text → Type 0) → Lawful r items is IsLeft → Spelled r (λ x js. is x × (js ≡ items x)) IsLeft
spelled_law r items is IsLeft law = record {
  takes = λ text x rest e. let h = law.takes text x rest e in (items x, (h.0, refl), h.1, h.2);
  again = λ text x rest js s b left. law.again text x rest s.0 (subst (λ (ks : List Item). Begins ks text rest) s.1 b) left;
}

-- the other way round
pub law_spelled : {K X : Type 0} (r : Reading K X) (items : X → List Item) (is : X → Type 0) (IsLeft : Text → Type 0) → Spelled r (λ x js. is x × (js ≡ items x)) IsLeft → Lawful r items is IsLeft
law_spelled r items is IsLeft law = record {
  takes = λ text x rest e. let h = law.takes text x rest e in (h.1.0, subst (λ (js : List Item). Begins js text rest) h.1.1 h.2, h.3);
  again = λ text x rest form b left. law.again text x rest (items x) (form, refl) b left;
}

-- a reading that is spelled by items is so by a spelling that says as much
pub spelled_as : {K X : Type 0} (r : Reading K X) (Of Of' : X → List Item → Type 0) (IsLeft : Text → Type 0) → ((x : X) (is : List Item) → Of x is → Of' x is) → ((x : X) (is : List Item) → Of' x is → Of x is) → Spelled r Of IsLeft → Spelled r Of' IsLeft
spelled_as r Of Of' IsLeft to fro law = record {
  takes = λ text x rest e. let h = law.takes text x rest e in (h.0, to x h.0 h.1, h.2, h.3);
  again = λ text x rest is s b left. law.again text x rest is (fro x is s) b left;
}

pub spelled_give : {K X : Type 0} (v : X) → Spelled {K = K} (give v) (λ x is. (v ≡ x) × (is ≡ [])) AnyText
spelled_give {K} v = record {
  takes = λ text x rest e. let p = ok_parts {K = K} v x text rest e in ([], (p.0, refl), p.1, tt);
  again = λ text x rest is s b left.
      let same : v ≡ x = s.0 in
      let none : text ≡ rest = subst (λ (js : List Item). Begins js text rest) s.1 b in
      let e : give {K = K} v text ≡ Ok (x, rest) = cc in e;
}

-- a word that passes a test
module _ {K X : Type 0} (other ended : K) (test : List ℕ → Result X K) where
  abbrev IsWordOf : X → List Item → Type 0
  IsWordOf x is = (w : List ℕ) × (test w ≡ Ok x) × (is ≡ Verbatim w ∷ [])

  word_takes : (text : Text) (x : X) (rest : Text) → word_at other ended test text ≡ Ok (x, rest) → (is : List Item) × IsWordOf x is × Begins is text rest × AnyText rest
  word_takes (WordAt at w t) x rest e = let p = placed_ok at t (test w) x rest e in (Verbatim w ∷ [], (w, p.0, refl), (refl, p.1), tt)
  word_takes (OpenAt at t) x rest e = absurd cc
  word_takes (CloseAt at t) x rest e = absurd cc
  word_takes (EndAt at) x rest e = absurd cc

  word_again : (text : Text) (w : List ℕ) (x : X) (rest : Text) → test w ≡ Ok x → Begins (Verbatim w ∷ []) text rest → word_at other ended test text ≡ Ok (x, rest)
  word_again (WordAt at v t) w x rest e b = rw (b.0, e) (ap (λ (u : Text). Ok (x, u)) b.1)
  word_again (OpenAt at t) w x rest e b = absurd (let o : Verbatim w ≡ Opening = b.0 in cc)
  word_again (CloseAt at t) w x rest e b = absurd (let o : Verbatim w ≡ Closing = b.0 in cc)
  word_again (EndAt at) w x rest e b = absurd b

  pub spelled_word : Spelled (word_at other ended test) (λ x is. (w : List ℕ) × (test w ≡ Ok x) × (is ≡ Verbatim w ∷ [])) AnyText
  spelled_word = record {
    takes = word_takes;
    again = λ text x rest is s b left. word_again text s.0 x rest s.1 (subst (λ (js : List Item). Begins js text rest) s.2 b);
  }

-- ---- one reading after another

-- items of the first before items of the second
abbrev pub Both : {A B : Type 0} → (A → List Item → Type 0) → (A → B → List Item → Type 0) → B → List Item → Type 0
Both {A} First Second b is = (a : A) × (js : List Item) × (ks : List Item) × First a js × Second a b ks × (is ≡ js ++ ks)

module _ {K A B : Type 0} (r : Reading K A) (f : A → Reading K B) (First : A → List Item → Type 0) (Second : A → B → List Item → Type 0) (IsLeft : Text → Type 0) (one : Spelled r First AnyText) (two : (a : A) (js : List Item) → First a js → Spelled (f a) (Second a) IsLeft) where
  then_takes : (text : Text) (q : Read K A) (b : B) (rest : Text) → r text ≡ q → after q f ≡ Ok (b, rest) → (is : List Item) × Both First Second b is × Begins is text rest × IsLeft rest
  then_takes text (Ok x) b rest e d =
      let h = one.takes text x.0 x.1 e in
      let k = (two x.0 h.0 h.1).takes x.1 b rest d in
      (h.0 ++ k.0, (x.0, h.0, k.0, h.1, k.1, refl), begins_both h.0 k.0 text x.1 rest h.2 k.2, k.3)
  then_takes text (Err c) b rest e d = absurd cc

  then_again : (text : Text) (b : B) (rest : Text) (is : List Item) → Both First Second b is → Begins is text rest → IsLeft rest → after (r text) f ≡ Ok (b, rest)
  then_again text b rest is s begins left =
      let p = begins_parts s.1 s.2 text rest (subst (λ (js : List Item). Begins js text rest) s.5 begins) in
      rw (one.again text s.0 p.0 s.1 s.3 p.1 tt) ((two s.0 s.1 s.3).again p.0 b rest s.2 s.4 p.2 left)

  pub spelled_then : Spelled (r >>= f) (λ b is. Both First Second b is) IsLeft
  spelled_then = record { takes = λ text b rest e. then_takes text (r text) b rest refl e; again = then_again }

-- ---- lists

-- elements one after another, each of which is spelled by those before it
abbrev pub SpelledAfter : {X : Type 0} → (List X → X → List Item → Type 0) → List X → List X → List Item → Type 0
SpelledAfter Of sofar [] is = is ≡ []
SpelledAfter Of sofar (x ∷ xs) is = (js ks : List Item) × Of sofar x js × SpelledAfter Of (sofar ++ x ∷ []) xs ks × (is ≡ js ++ ks)

-- what each is after those before it, and how it is spelled
pub after_parts : {X : Type 0} (C : List X → X → Type 0) (Of : X → List Item → Type 0) (sofar xs : List X) (is : List Item) → SpelledAfter (λ before x js. C before x × Of x js) sofar xs is → ComeAfter C sofar xs × AreSpelled Of xs is
after_parts C Of sofar [] is s = (tt, s)
after_parts C Of sofar (x ∷ xs) is s = let h = after_parts C Of (sofar ++ x ∷ []) xs s.1 s.3 in ((s.2.0, h.0), (s.0, s.1, s.2.1, h.1, s.4))

pub parts_after : {X : Type 0} (C : List X → X → Type 0) (Of : X → List Item → Type 0) (sofar xs : List X) (is : List Item) → ComeAfter C sofar xs → AreSpelled Of xs is → SpelledAfter (λ before x js. C before x × Of x js) sofar xs is
parts_after C Of sofar [] is c s = s
parts_after C Of sofar (x ∷ xs) is c s = (s.0, s.1, (c.0, s.2), parts_after C Of (sofar ++ x ∷ []) xs s.1 c.1 s.3, s.4)

module _ {K X : Type 0} (ending : Ending) (fault : List X → Option K) (one : List X → Reading K X) (Of : List X → X → List Item → Type 0) (starts : (sofar : List X) (x : X) (is : List Item) → Of sofar x is → StartsBefore ending is) (law : (sofar : List X) → Spelled (one sofar) (Of sofar) AnyText) where
  abbrev E : ℕ → List X → Reading K (List X)
  E n sofar text = elements ending fault one n sofar text

  abbrev M : ℕ → List X → X → Reading K (List X)
  M n sofar x text = more ending fault one n sofar x text

  -- a list that was read: new elements after the earlier ones
  record Takes (sofar : List X) (text : Text) (all : List X) (rest : Text) : Type 0 where
    pub new : List X
    pub items : List Item
    pub all_are : all ≡ sofar ++ new
    pub right : fault all ≡ None
    pub each : SpelledAfter Of sofar new items
    pub begins : Begins (items ++ ending_items ending) text rest
    pub left : IsLeftBy ending rest

  takes_more : (n : ℕ) (sofar : List X) (text : Text) (q : Read K X) (all : List X) (rest : Text) → one sofar text ≡ q → after q (λ x. M n sofar x) ≡ Ok (all, rest) → size text < suc n
      → ((x : X) (mid : Text) → size mid < n → M n sofar x mid ≡ Ok (all, rest) → Takes (sofar ++ x ∷ []) mid all rest) → Takes sofar text all rest
  takes_more n sofar text (Err d) all rest read e enough later = absurd cc
  takes_more n sofar text (Ok x) all rest read e enough later =
      let h = (law sofar).takes text x.0 x.1 read in
      let t = later x.0 x.1 (omega (arith, enough, starts_less ending h.0 text x.1 (starts sofar x.0 h.0 h.1) h.2)) e in
      record {
        new = x.0 ∷ t.new;
        items = h.0 ++ t.items;
        all_are = t.all_are ∙ append_assoc sofar (x.0 ∷ []) t.new;
        right = t.right;
        each = (h.0, t.items, h.1, t.each, refl);
        begins = subst (λ (js : List Item). Begins js text rest) (sym (append_assoc h.0 t.items (ending_items ending))) (begins_both h.0 (t.items ++ ending_items ending) text x.1 rest h.2 t.begins);
        left = t.left;
      }

  takes_by : (n : ℕ) (sofar : List X) (text : Text) (o : Option Text) (all : List X) (rest : Text) → past_ending ending text ≡ o → ended_or o (λ r. placed (place text) r (sound sofar (fault sofar))) (after (one sofar text) (λ x. M n sofar x)) ≡ Ok (all, rest) → size text < suc n
      → ((x : X) (mid : Text) → size mid < n → M n sofar x mid ≡ Ok (all, rest) → Takes (sofar ++ x ∷ []) mid all rest) → Takes sofar text all rest
  takes_by n sofar text (Some r) all rest read e enough later =
      let p = placed_ok (place text) r (sound sofar (fault sofar)) all rest e in
      let s = sound_ok sofar all (fault sofar) p.0 in
      let b = ending_takes ending text r read in
      record {
        new = [];
        items = [];
        all_are = sym s.1 ∙ sym (append-nil sofar);
        right = subst (λ (xs : List X). fault xs ≡ None) s.1 s.0;
        each = refl;
        begins = subst (λ (t : Text). Begins (ending_items ending) text t) p.1 b.0;
        left = subst (λ (t : Text). IsLeftBy ending t) p.1 b.1;
      }
  takes_by n sofar text None all rest read e enough later = takes_more n sofar text (one sofar text) all rest refl e enough later

  list_takes : (n : ℕ) (sofar : List X) (text : Text) (all : List X) (rest : Text) → size text < n → E n sofar text ≡ Ok (all, rest) → Takes sofar text all rest
  list_takes zero sofar text all rest enough e = absurd (omega (arith, enough))
  list_takes (suc n) sofar text all rest enough e = takes_by n sofar text (past_ending ending text) all rest refl e enough (λ x mid lt h. list_takes n (sofar ++ x ∷ []) mid all rest lt h)

  list_again : (n : ℕ) (sofar new : List X) (is : List Item) (text rest : Text) → size text < n → fault (sofar ++ new) ≡ None → SpelledAfter Of sofar new is → Begins (is ++ ending_items ending) text rest → IsLeftBy ending rest → E n sofar text ≡ Ok (sofar ++ new, rest)
  list_again zero sofar new is text rest enough right each b left = absurd (omega (arith, enough))
  list_again (suc n) sofar [] is text rest enough right each b left =
      let all = append-nil sofar in
      at_ending ending fault one n sofar text rest (ending_again ending text rest (subst (λ (js : List Item). Begins (js ++ ending_items ending) text rest) each b) left)
      ∙ (ap (λ (o : Option K). placed (place text) rest (sound sofar o)) (subst (λ (xs : List X). fault xs ≡ None) all right) ∙ ap (λ (xs : List X). Ok (xs, rest)) (sym all))
  list_again (suc n) sofar (x ∷ xs) is text rest enough right each b left =
      let following = each.1 ++ ending_items ending in
      let joined : Begins (each.0 ++ following) text rest = subst (λ (js : List Item). Begins js text rest) (append_assoc each.0 each.1 (ending_items ending)) (subst (λ (js : List Item). Begins (js ++ ending_items ending) text rest) each.4 b) in
      let p = begins_parts each.0 following text rest joined in
      let begun = starts sofar x each.0 each.2 in
      let read = (law sofar).again text x p.0 each.0 each.2 p.1 tt in
      let less = starts_less ending each.0 text p.0 begun p.1 in
      let all = append_assoc sofar (x ∷ []) xs in
      before_ending ending fault one n sofar text (no_ending ending each.0 following text rest begun joined)
      ∙ (ap (λ (q : Read K X). after q (λ y. M n sofar y)) read
      ∙ (list_again n (sofar ++ x ∷ []) xs each.1 p.0 rest (omega (arith, enough, less)) (subst (λ (ys : List X). fault ys ≡ None) (sym all) right) each.3 p.2 left
      ∙ ap (λ (ys : List X). Ok (ys, rest)) all))

  pub spelled_elements : Spelled (list_at ending fault one []) (λ xs is. (fault xs ≡ None) × ((js : List Item) × SpelledAfter Of [] xs js × (is ≡ js ++ ending_items ending))) (IsLeftBy ending)
  spelled_elements = record {
    takes = λ text xs rest e.
        let t = list_takes (suc (size text)) [] text xs rest (omega arith) e in
        (t.items ++ ending_items ending, (t.right, (t.items, subst (λ (ys : List X). SpelledAfter Of [] ys t.items) (sym t.all_are) t.each, refl)), t.begins, t.left);
    again = λ text xs rest is s b left.
        list_again (suc (size text)) [] xs s.1.0 text rest (omega arith) s.0 s.1.1 (subst (λ (js : List Item). Begins js text rest) s.1.2 b) left;
  }

-- a list up to its closing parenthesis
pub spelled_list : {K X : Type 0} (fault : List X → Option K) (one : List X → Reading K X) (Of : List X → X → List Item → Type 0) → ((sofar : List X) (x : X) (is : List Item) → Of sofar x is → Starts is) → ((sofar : List X) → Spelled (one sofar) (Of sofar) AnyText)
    → Spelled (list_at Parenthesis fault one []) (λ xs is. (fault xs ≡ None) × ((js : List Item) × SpelledAfter Of [] xs js × (is ≡ js ++ Closing ∷ []))) AnyText
spelled_list fault one Of starts law = spelled_elements Parenthesis fault one Of starts law
