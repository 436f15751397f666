-- TakesElement of a list.
use Rattle.std.proofs.Common.{◌≡◌, ℕ, zero, suc, ◌<◌, List, [], ◌∷◌, ◌++◌, Option, None, Some, Ok, Err, refl, ap, ◌∙◌, arith}
use Rattle.snd_tokens.specs.Terms.{Text, size}
use Rattle.text_kit.{specs.Places.place, specs.Reading.{Read, Reading, after, give, mapped, Ending, Parenthesis, past_ending, placed, sound, ended_or, list_at, no_fault, each_at}, proofs.Online.{TakesSome, before_ending, elements, more}}

module _ {K X : Type 0} (ending : Ending) (fault : List X → Option K) (one : List X → Reading K X) (some : (sofar : List X) → TakesSome (one sofar)) where
  abbrev E : ℕ → List X → Reading K (List X)
  E n sofar text = elements ending fault one n sofar text

  by_answer : (n m : ℕ) (sofar : List X) (text : Text) (q : Read K X) → one sofar text ≡ q → ((x : X) (rest : Text) → size rest < size text → E n (sofar ++ x ∷ []) rest ≡ E m (sofar ++ x ∷ []) rest)
      → after q (λ x. more ending fault one n sofar x) ≡ after q (λ x. more ending fault one m sofar x)
  by_answer n m sofar text (Ok x) is later = later x.0 x.1 (some sofar text x.0 x.1 is)
  by_answer n m sofar text (Err d) is later = refl

  by_ending : (n m : ℕ) (sofar : List X) (text : Text) (o : Option Text) → after (one sofar text) (λ x. more ending fault one n sofar x) ≡ after (one sofar text) (λ x. more ending fault one m sofar x)
      → ended_or o (λ r. placed (place text) r (sound sofar (fault sofar))) (after (one sofar text) (λ x. more ending fault one n sofar x)) ≡ ended_or o (λ r. placed (place text) r (sound sofar (fault sofar))) (after (one sofar text) (λ x. more ending fault one m sofar x))
  by_ending n m sofar text (Some r) e = refl
  by_ending n m sofar text None e = e

  -- more turns than enough change nothing
  enough : (n m : ℕ) (sofar : List X) (text : Text) → size text < n → size text < m → E n sofar text ≡ E m sofar text
  enough zero m sofar text low high = absurd (omega (arith, low))
  enough (suc n) zero sofar text low high = absurd (omega (arith, high))
  enough (suc n) (suc m) sofar text low high =
      by_ending n m sofar text (past_ending ending text)
      (by_answer n m sofar text (one sofar text) refl (λ x rest lt. enough n m (sofar ++ x ∷ []) rest (omega (arith, lt, low)) (omega (arith, lt, high))))

  -- one element more
  pub list_turn : (sofar : List X) (text rest : Text) (x : X) → past_ending ending text ≡ None → one sofar text ≡ Ok (x, rest) → list_at ending fault one sofar text ≡ list_at ending fault one (sofar ++ x ∷ []) rest
  list_turn sofar text rest x open_text e =
      before_ending ending fault one (size text) sofar text open_text
      ∙ (ap (λ (q : Read K X). after q (λ y. more ending fault one (size text) sofar y)) e
      ∙ enough (size text) (suc (size rest)) (sofar ++ x ∷ []) rest (some sofar text x rest e) (omega arith))

-- an element that fails
pub list_fails : {K X : Type 0} (ending : Ending) (fault : List X → Option K) (one : List X → Reading K X) (sofar : List X) (text : Text) (e : ℕ × K) → past_ending ending text ≡ None → one sofar text ≡ Err e → list_at ending fault one sofar text ≡ Err e
list_fails {K} {X} ending fault one sofar text d open_text e =
    before_ending ending fault one (size text) sofar text open_text ∙ ap (λ (q : Read K X). after q (λ y. more ending fault one (size text) sofar y)) e

-- Lists after elements that are alike to what is kept of them are read alike.
module _ {K X Y : Type 0} (ending : Ending) (one : List X → Reading K X) (kept : List X → Y) (Alike : List X → List X → Type 0) (same : (s t : List X) → Alike s t → (text : Text) → one s text ≡ one t text)
    (longer : (s t : List X) (x : X) → Alike s t → Alike (s ++ x ∷ []) (t ++ x ∷ [])) (equal : (s t : List X) → Alike s t → kept s ≡ kept t) where
  abbrev Kept : Read K (List X) → Read K Y
  Kept q = after q (λ xs. give (kept xs))

  alike_more : (n : ℕ) (s t : List X) (q : Read K X) → ((x : X) (rest : Text) → Kept (elements ending no_fault one n (s ++ x ∷ []) rest) ≡ Kept (elements ending no_fault one n (t ++ x ∷ []) rest))
      → Kept (after q (λ x. more ending no_fault one n s x)) ≡ Kept (after q (λ x. more ending no_fault one n t x))
  alike_more n s t (Ok x) later = later x.0 x.1
  alike_more n s t (Err d) later = refl

  alike_by : (s t : List X) (at : ℕ) (o : Option Text) (p q : Read K (List X)) → Alike s t → Kept p ≡ Kept q → Kept (ended_or o (λ r. placed at r (sound s (no_fault s))) p) ≡ Kept (ended_or o (λ r. placed at r (sound t (no_fault t))) q)
  alike_by s t at (Some r) p q alike e = ap (λ (y : Y). Ok (y, r)) (equal s t alike)
  alike_by s t at None p q alike e = e

  alike_all : (n : ℕ) (s t : List X) (text : Text) → Alike s t → Kept (elements ending no_fault one n s text) ≡ Kept (elements ending no_fault one n t text)
  alike_all zero s t text alike = ap (λ (y : Y). Ok (y, text)) (equal s t alike)
  alike_all (suc n) s t text alike =
      alike_by s t (place text) (past_ending ending text) (after (one s text) (λ x. more ending no_fault one n s x)) (after (one t text) (λ x. more ending no_fault one n t x)) alike
      (ap (λ (q : Read K X). Kept (after q (λ x. more ending no_fault one n s x))) (same s t alike text)
      ∙ alike_more n s t (one t text) (λ x rest. alike_all n (s ++ x ∷ []) (t ++ x ∷ []) rest (longer s t x alike)))

  pub lists_alike : (s t : List X) (text : Text) → Alike s t → mapped kept (list_at ending no_fault one s) text ≡ mapped kept (list_at ending no_fault one t) text
  lists_alike s t text alike = alike_all (suc (size text)) s t text alike

-- one element more, of which nothing is kept
pub each_turn : {K X : Type 0} (one : Reading K X) (some : TakesSome one) (text rest : Text) (x : X) → past_ending Parenthesis text ≡ None → one text ≡ Ok (x, rest) → each_at one text ≡ each_at one rest
each_turn {K} {X} one some text rest x open_text e =
    ap (λ (q : Read K (List X)). after q (λ xs. give tt)) (list_turn Parenthesis no_fault (λ s. one) (λ s. some) [] text rest x open_text e)
    ∙ lists_alike Parenthesis (λ s. one) (λ xs. tt) (λ s t. Unit {0}) (λ s t a u. refl) (λ s t y a. tt) (λ s t a. refl) ([] ++ x ∷ []) [] rest tt
