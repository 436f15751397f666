-- Readings of a whole line that its first word chooses take exactly what one of their branches takes after its word.
use Rattle.std.proofs.Common.{◌≡◌, ◌⊎◌, inl, inr, ℕ, Bool, true, false, cond, List, [], ◌∷◌, Ok, Err, refl, sym, ap, subst, ◌∙◌}
use Rattle.net_core.{specs.Terms.are_same, proofs.Checks.same_is}
use Rattle.snd_tokens.specs.Terms.{Text, WordAt, OpenAt, CloseAt, EndAt}
use Rattle.text_kit.{specs.Terms.{Item, Verbatim, Opening, Closing, Begins, Reading}, proofs.Beginnings.IsEnd, proofs.Lemmas.{is_same, lawful_as, Spelled}, proofs.Spelled.Lawful}
use Rattle.report_words.{specs.declared.fault.ReportKind.ReportKind, specs.declared.fault.ReportKind.TheVariants.Token, specs.ReportChoices.{Branches, branch_at, branch_of}, proofs.BranchLaws.has_word, proofs.Making.{Made, MadeOf}}

no_word : {X : Type 0} (bs : Branches X) (at : ℕ) (w : List ℕ) (t : Text) → has_word w bs ≡ false → branch_of true bs at w t ≡ Err (at, Token)
no_word [] at w t none = refl
no_word (b ∷ bs) at w t none =
    elim (are_same w b.0) as (λ v. cond v true (has_word w bs) ≡ false → cond v (b.1 t) (branch_of true bs at w t) ≡ Err (at, Token)) [
      | true ↦ λ e. absurd cc
      | false ↦ λ e. no_word bs at w t e
    ] none

-- the law of these branches
pub record Chosen {X : Type 0} (bs : Branches X) (items : X → List Item) (is : X → Type 0) : Type 0 where
  pub law : Lawful (branch_at bs) items is IsEnd

-- no branch
pub chosen_none : {X : Type 0} (items : X → List Item) → Chosen [] items (λ x. ⊥)
chosen_none {X} items = record { law = record { takes = none_takes; again = λ text x rest is b left. absurd is } }
  where
    none_takes : (text : Text) (x : X) (rest : Text) → branch_at [] text ≡ Ok (x, rest) → ⊥ × Begins (items x) text rest × IsEnd rest
    none_takes (WordAt at w t) x rest e = absurd cc
    none_takes (OpenAt at t) x rest e = absurd cc
    none_takes (CloseAt at t) x rest e = absurd cc
    none_takes (EndAt at) x rest e = absurd cc

-- one branch more
module _ {P X : Type 0} (key : List ℕ) (r : Reading ReportKind X) (bs : Branches X) (value : P → X) (each : P → List Item) (ok : P → Type 0) (items : X → List Item) (is : X → Type 0) (new : has_word key bs ≡ false) (same : (p : P) → ok p → Verbatim key ∷ each p ≡ items (value p)) (one : Spelled r (λ x js. Made value each ok x js) IsEnd) (others : Chosen bs items is) where
  abbrev IsEither : X → Type 0
  IsEither x = MadeOf value ok x ⊎ is x

  word_takes : (at : ℕ) (w : List ℕ) (t : Text) (x : X) (rest : Text) (v : Bool) → are_same w key ≡ v → cond v (r t) (branch_of true bs at w t) ≡ Ok (x, rest) → IsEither x × Begins (items x) (WordAt at w t) rest × IsEnd rest
  word_takes at w t x rest true s e =
      let h = one.takes t x rest e in
      let b : Begins (each h.1.parts) t rest = subst (λ (js : List Item). Begins js t rest) h.1.spelled h.2 in (
        inl (record { parts = h.1.parts; right = h.1.right; gives = h.1.gives }),
        subst (λ (js : List Item). Begins js (WordAt at w t) rest) (same h.1.parts h.1.right ∙ ap items h.1.gives) (same_is w key s, b),
        h.3,
      )
  word_takes at w t x rest false s e = let h = others.law.takes (WordAt at w t) x rest e in (inr h.0, h.1, h.2)

  more_takes : (text : Text) (x : X) (rest : Text) → branch_at ((key, r) ∷ bs) text ≡ Ok (x, rest) → IsEither x × Begins (items x) text rest × IsEnd rest
  more_takes (WordAt at w t) x rest e = word_takes at w t x rest (are_same w key) refl e
  more_takes (OpenAt at t) x rest e = absurd cc
  more_takes (CloseAt at t) x rest e = absurd cc
  more_takes (EndAt at) x rest e = absurd cc

  this_again : (text : Text) (p : P) (rest : Text) → ok p → Begins (Verbatim key ∷ each p) text rest → IsEnd rest → branch_at ((key, r) ∷ bs) text ≡ Ok (value p, rest)
  this_again (WordAt at w t) p rest h b left = rw (b.0, is_same key) (one.again t (value p) rest (each p) (record { parts = p; right = h; gives = refl; spelled = refl }) b.1 left)
  this_again (OpenAt at t) p rest h b left = absurd (let e : Verbatim key ≡ Opening = b.0 in cc)
  this_again (CloseAt at t) p rest h b left = absurd (let e : Verbatim key ≡ Closing = b.0 in cc)
  this_again (EndAt at) p rest h b left = absurd b

  not_this : (at : ℕ) (w : List ℕ) (t : Text) (x : X) (rest : Text) → w ≡ key → branch_of true bs at w t ≡ Ok (x, rest) → ⊥
  not_this at w t x rest s e = let f : branch_of true bs at w t ≡ Err (at, Token) = no_word bs at w t (ap (λ (k : List ℕ). has_word k bs) s ∙ new) in cc

  others_again : (text : Text) (x : X) (rest : Text) → branch_at bs text ≡ Ok (x, rest) → branch_at ((key, r) ∷ bs) text ≡ Ok (x, rest)
  others_again (WordAt at w t) x rest e =
      elim (are_same w key) as (λ v. are_same w key ≡ v → cond v (r t) (branch_of true bs at w t) ≡ Ok (x, rest)) [
        | true ↦ λ s. absurd (not_this at w t x rest (same_is w key s) e)
        | false ↦ λ s. e
      ] refl
  others_again (OpenAt at t) x rest e = e
  others_again (CloseAt at t) x rest e = e
  others_again (EndAt at) x rest e = e

  more_again : (text : Text) (x : X) (rest : Text) → IsEither x → Begins (items x) text rest → IsEnd rest → branch_at ((key, r) ∷ bs) text ≡ Ok (x, rest)
  more_again text x rest either b left = elim either [
    | inl m ↦ this_again text m.parts rest m.right (subst (λ (js : List Item). Begins js text rest) (ap items (sym m.gives) ∙ sym (same m.parts m.right)) b) left ∙ ap (λ (y : X). Ok (y, rest)) m.gives
    | inr h ↦ others_again text x rest (others.law.again text x rest h b left)
  ]

  pub chosen_more : Chosen ((key, r) ∷ bs) items IsEither
  chosen_more = record { law = record { takes = more_takes; again = more_again } }

-- the form that a branch gives, or that the others give
pub made_or : {P X : Type 0} (value : P → X) (ok : P → Type 0) (is form : X → Type 0) → ((p : P) → ok p → form (value p)) → ((x : X) → is x → form x) → (x : X) → MadeOf value ok x ⊎ is x → form x
made_or value ok is form this others x either = elim either [
  | inl m ↦ subst form m.gives (this m.parts m.right)
  | inr h ↦ others x h
]

-- what branches give, said otherwise
pub chosen_as : {X : Type 0} (bs : Branches X) (items : X → List Item) (is form : X → Type 0) → ((x : X) → is x → form x) → ((x : X) → form x → is x) → Chosen bs items is → Chosen bs items form
chosen_as bs items is form to fro b = record { law = lawful_as (branch_at bs) items items is form IsEnd (λ x h. refl) to fro b.law }
