-- Readings that a word chooses take exactly what one of their branches takes after its word.
use Rattle.std.proofs.Common.{◌≡◌, ◌⊎◌, inl, inr, ℕ, Bool, true, false, cond, List, [], ◌∷◌, Result, Ok, Err, refl, sym, ap, subst, ◌∙◌}
use Rattle.net_core.{specs.Terms.are_same, proofs.Checks.same_is}
use Rattle.snd_tokens.specs.Terms.{Text, WordAt, OpenAt, CloseAt, EndAt}
use Rattle.text_kit.{specs.Terms.{Item, Verbatim, Opening, Closing, Begins, Reading}, proofs.Beginnings.AnyText, proofs.Lemmas.{is_same, lawful_as, ok_parts, Spelled}, proofs.Spelled.Lawful}
use Rattle.report_words.{specs.declared.fault.ReportKind.ReportKind, specs.declared.fault.ReportKind.TheVariants.{Token, Limit}, specs.ReportChoices.{Branches, branch_of, branch_or}, proofs.Making.{Made, MadeOf}}

-- a branch has this word
abbrev pub has_word : {X : Type 0} → List ℕ → Branches X → Bool
has_word w [] = false
has_word w (b ∷ bs) = cond (are_same w b.0) true (has_word w bs)

no_word : {X : Type 0} (room : Bool) (bs : Branches X) (at : ℕ) (w : List ℕ) (t : Text) → has_word w bs ≡ false → branch_of room bs at w t ≡ Err (at, Token)
no_word room [] at w t none = refl
no_word room (b ∷ bs) at w t none =
    elim (are_same w b.0) as (λ v. cond v true (has_word w bs) ≡ false → cond v (cond room (b.1 t) (Err (at, Limit))) (branch_of room bs at w t) ≡ Err (at, Token)) [
      | true ↦ λ e. absurd cc
      | false ↦ λ e. no_word room bs at w t e
    ] none

-- the law of these branches
pub record Branched {X : Type 0} (room : Bool) (closing : Result X ReportKind) (bs : Branches X) (items : X → List Item) (is : X → Type 0) : Type 0 where
  pub law : Lawful (branch_or room closing bs) items is AnyText

-- no branch
pub lawful_no_branch : {X : Type 0} (room : Bool) (kind : ReportKind) (items : X → List Item) → Branched room (Err kind) [] items (λ x. ⊥)
lawful_no_branch {X} room kind items = record { law = record { takes = none_takes; again = λ text x rest is b left. absurd is } }
  where
    none_takes : (text : Text) (x : X) (rest : Text) → branch_or room (Err kind) [] text ≡ Ok (x, rest) → ⊥ × Begins (items x) text rest × AnyText rest
    none_takes (WordAt at w t) x rest e = absurd cc
    none_takes (OpenAt at t) x rest e = absurd cc
    none_takes (CloseAt at t) x rest e = absurd cc
    none_takes (EndAt at) x rest e = absurd cc

-- no branch but a closing parenthesis
module _ {X : Type 0} (room : Bool) (v : X) (items : X → List Item) (closes : items v ≡ Closing ∷ []) where
  close_takes : (text : Text) (x : X) (rest : Text) → branch_or room (Ok v) [] text ≡ Ok (x, rest) → (v ≡ x) × Begins (items x) text rest × AnyText rest
  close_takes (WordAt at w t) x rest e = absurd cc
  close_takes (OpenAt at t) x rest e = absurd cc
  close_takes (CloseAt at t) x rest e =
      let p = ok_parts {K = ReportKind} v x t rest e in
      (p.0, subst (λ (js : List Item). Begins js (CloseAt at t) rest) (sym closes ∙ ap items p.0) (refl, p.1), tt)
  close_takes (EndAt at) x rest e = absurd cc

  close_again : (text : Text) (rest : Text) → Begins (Closing ∷ []) text rest → branch_or room (Ok v) [] text ≡ Ok (v, rest)
  close_again (WordAt at w t) rest b = absurd b.0
  close_again (OpenAt at t) rest b = absurd (let e : Closing ≡ Opening = b.0 in cc)
  close_again (CloseAt at t) rest b = ap (λ (u : Text). Ok (v, u)) b.1
  close_again (EndAt at) rest b = absurd b

  pub lawful_closed : Branched room (Ok v) [] items (λ x. v ≡ x)
  lawful_closed = record {
    law = record {
      takes = close_takes;
      again = λ text x rest is b left. close_again text rest (subst (λ (js : List Item). Begins js text rest) (ap items (sym is) ∙ closes) b) ∙ ap (λ (y : X). Ok (y, rest)) is;
    };
  }

-- one branch more
module _ {P X : Type 0} (room : Bool) (closing : Result X ReportKind) (key : List ℕ) (r : Reading ReportKind X) (bs : Branches X) (value : P → X) (each : P → List Item) (ok : P → Type 0) (items : X → List Item) (is : X → Type 0) (new : has_word key bs ≡ false) (same : (p : P) → ok p → Verbatim key ∷ each p ≡ items (value p)) (one : Spelled r (λ x js. Made value each ok x js) AnyText) (others : Branched room closing bs items is) where
  abbrev IsEither : X → Type 0
  IsEither x = ((room ≡ true) × MadeOf value ok x) ⊎ is x

  word_takes : (at : ℕ) (w : List ℕ) (t : Text) (x : X) (rest : Text) (v u : Bool) → are_same w key ≡ v → room ≡ u → cond v (cond u (r t) (Err (at, Limit))) (branch_of room bs at w t) ≡ Ok (x, rest) → IsEither x × Begins (items x) (WordAt at w t) rest × AnyText rest
  word_takes at w t x rest true true s m e =
      let h = one.takes t x rest e in
      let b : Begins (each h.1.parts) t rest = subst (λ (js : List Item). Begins js t rest) h.1.spelled h.2 in (
        inl (m, record { parts = h.1.parts; right = h.1.right; gives = h.1.gives }),
        subst (λ (js : List Item). Begins js (WordAt at w t) rest) (same h.1.parts h.1.right ∙ ap items h.1.gives) (same_is w key s, b),
        tt,
      )
  word_takes at w t x rest true false s m e = absurd cc
  word_takes at w t x rest false u s m e = let h = others.law.takes (WordAt at w t) x rest e in (inr h.0, h.1, tt)

  more_takes : (text : Text) (x : X) (rest : Text) → branch_or room closing ((key, r) ∷ bs) text ≡ Ok (x, rest) → IsEither x × Begins (items x) text rest × AnyText rest
  more_takes (WordAt at w t) x rest e = word_takes at w t x rest (are_same w key) room refl refl e
  more_takes (OpenAt at t) x rest e = absurd cc
  more_takes (CloseAt at t) x rest e = let h = others.law.takes (CloseAt at t) x rest e in (inr h.0, h.1, tt)
  more_takes (EndAt at) x rest e = absurd cc

  this_again : (text : Text) (p : P) (rest : Text) → room ≡ true → ok p → Begins (Verbatim key ∷ each p) text rest → branch_or room closing ((key, r) ∷ bs) text ≡ Ok (value p, rest)
  this_again (WordAt at w t) p rest m h b = rw (b.0, is_same key, m) (one.again t (value p) rest (each p) (record { parts = p; right = h; gives = refl; spelled = refl }) b.1 tt)
  this_again (OpenAt at t) p rest m h b = absurd (let e : Verbatim key ≡ Opening = b.0 in cc)
  this_again (CloseAt at t) p rest m h b = absurd (let e : Verbatim key ≡ Closing = b.0 in cc)
  this_again (EndAt at) p rest m h b = absurd b

  not_this : (at : ℕ) (w : List ℕ) (t : Text) (x : X) (rest : Text) → w ≡ key → branch_of room bs at w t ≡ Ok (x, rest) → ⊥
  not_this at w t x rest s e = let f : branch_of room bs at w t ≡ Err (at, Token) = no_word room bs at w t (ap (λ (k : List ℕ). has_word k bs) s ∙ new) in cc

  others_again : (text : Text) (x : X) (rest : Text) → branch_or room closing bs text ≡ Ok (x, rest) → branch_or room closing ((key, r) ∷ bs) text ≡ Ok (x, rest)
  others_again (WordAt at w t) x rest e =
      elim (are_same w key) as (λ v. are_same w key ≡ v → cond v (cond room (r t) (Err (at, Limit))) (branch_of room bs at w t) ≡ Ok (x, rest)) [
        | true ↦ λ s. absurd (not_this at w t x rest (same_is w key s) e)
        | false ↦ λ s. e
      ] refl
  others_again (OpenAt at t) x rest e = e
  others_again (CloseAt at t) x rest e = e
  others_again (EndAt at) x rest e = e

  more_again : (text : Text) (x : X) (rest : Text) → IsEither x → Begins (items x) text rest → branch_or room closing ((key, r) ∷ bs) text ≡ Ok (x, rest)
  more_again text x rest either b = elim either [
    | inl m ↦ this_again text m.1.parts rest m.0 m.1.right (subst (λ (js : List Item). Begins js text rest) (ap items (sym m.1.gives) ∙ sym (same m.1.parts m.1.right)) b) ∙ ap (λ (y : X). Ok (y, rest)) m.1.gives
    | inr h ↦ others_again text x rest (others.law.again text x rest h b tt)
  ]

  pub lawful_branch : Branched room closing ((key, r) ∷ bs) items IsEither
  lawful_branch = record { law = record { takes = more_takes; again = λ text x rest either b left. more_again text x rest either b } }

-- the form that a branch gives, or that the others give
pub either_form : {P X : Type 0} (room : Bool) (value : P → X) (ok : P → Type 0) (is form : X → Type 0) → ((p : P) → room ≡ true → ok p → form (value p)) → ((x : X) → is x → form x) → (x : X) → ((room ≡ true) × MadeOf value ok x) ⊎ is x → form x
either_form room value ok is form this others x either = elim either [
  | inl m ↦ subst form m.1.gives (this m.1.parts m.0 m.1.right)
  | inr h ↦ others x h
]

-- what branches give, said otherwise
pub branches_law : {X : Type 0} (room : Bool) (closing : Result X ReportKind) (bs : Branches X) (items : X → List Item) (is form : X → Type 0) → ((x : X) → is x → form x) → ((x : X) → form x → is x) → Branched room closing bs items is → Lawful (branch_or room closing bs) items form AnyText
branches_law room closing bs items is form to fro b = lawful_as (branch_or room closing bs) items items is form AnyText (λ x h. refl) to fro b.law
