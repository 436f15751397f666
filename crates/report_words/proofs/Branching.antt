-- Readings that a word chooses depend on no lexeme after what they take.
use Rattle.std.proofs.Common.{◌≡◌, ℕ, zero, suc, Bool, true, false, cond, List, [], ◌∷◌, Result, Ok, Err, refl, sym, ◌∙◌}
use Rattle.net_core.specs.Terms.{are_same}
use Rattle.snd_tokens.specs.Terms.{Text, WordAt, OpenAt, CloseAt, EndAt}
use Rattle.text_kit.{specs.Terms.{Reading, after, ◌>>=◌, give, over_at, placed, step_at}, proofs.Lemmas.{IsOnline, online_give, online_over, online_step, online_then}}
use Rattle.report_words.{specs.declared.fault.ReportKind.ReportKind, specs.declared.fault.ReportKind.TheVariants.{Token, Ended, Limit}, specs.ReportChoices.{Branches, branch_of, branch_or}}

-- a reading that answers as another does is online where that one is
pub online_same : {K X : Type 0} (r s : Reading K X) → ((t : Text) → r t ≡ s t) → IsOnline r → IsOnline s
online_same {K} {X} r s same on = record {
  took = λ text x rest e.
      let t = on.took text x rest (same text ∙ e) in
      record { count = t.count; following = t.following; again = λ m u alike. let h = t.again m u alike in (h.0, sym (same u) ∙ h.1, h.2) };
  failed = λ text at kind e.
      let f = on.failed text at kind (same text ∙ e) in
      record { count = f.count; here = f.here; again = λ u alike. sym (same u) ∙ f.again u alike };
}

-- the place of a branch, or what a closing parenthesis gives
data Choice (X : Type 0) : Type 0 where
  Branch : ℕ → Choice X
  Closed : X → Choice X

module _ {X : Type 0} where
  abbrev one_on : Result (Choice X) ReportKind → Result (Choice X) ReportKind
  one_on (Ok (Branch n)) = Ok (Branch (suc n))
  one_on (Ok (Closed x)) = Ok (Closed x)
  one_on (Err kind) = Err kind

  abbrev chosen : Bool → Branches X → List ℕ → Result (Choice X) ReportKind
  chosen room [] w = Err Token
  chosen room (b ∷ bs) w = cond (are_same w b.0) (cond room (Ok (Branch 0)) (Err Limit)) (one_on (chosen room bs w))

  abbrev chosen_reading : Branches X → Choice X → Reading ReportKind X
  chosen_reading bs (Closed x) = give x
  chosen_reading [] (Branch n) = over_at Token Ended
  chosen_reading (b ∷ bs) (Branch zero) = b.1
  chosen_reading (b ∷ bs) (Branch (suc n)) = chosen_reading bs (Branch n)

  abbrev closed_by : Result X ReportKind → Result (Choice X) ReportKind
  closed_by (Ok x) = Ok (Closed x)
  closed_by (Err kind) = Err kind

  one_further : (b : List ℕ × Reading ReportKind X) (bs : Branches X) (at : ℕ) (rest : Text) (q : Result (Choice X) ReportKind)
      → after (placed at rest (one_on q)) (chosen_reading (b ∷ bs)) ≡ after (placed at rest q) (chosen_reading bs)
  one_further b bs at rest (Ok (Branch n)) = refl
  one_further b bs at rest (Ok (Closed x)) = refl
  one_further b bs at rest (Err kind) = refl

  by_word : (room : Bool) (bs : Branches X) (at : ℕ) (w : List ℕ) (rest : Text) → after (placed at rest (chosen room bs w)) (chosen_reading bs) ≡ branch_of room bs at w rest
  by_word room [] at w rest = refl
  by_word room (b ∷ bs) at w rest =
      elim (are_same w b.0) as (λ v. after (placed at rest (cond v (cond room (Ok (Branch 0)) (Err Limit)) (one_on (chosen room bs w)))) (chosen_reading (b ∷ bs)) ≡ cond v (cond room (b.1 rest) (Err (at, Limit))) (branch_of room bs at w rest)) [
        | true ↦ elim room as (λ v. after (placed at rest (cond v (Ok (Branch 0)) (Err Limit))) (chosen_reading (b ∷ bs)) ≡ cond v (b.1 rest) (Err (at, Limit))) [
          | true ↦ refl
          | false ↦ refl
        ]
        | false ↦ one_further b bs at rest (chosen room bs w) ∙ by_word room bs at w rest
      ]

  by_closing : (bs : Branches X) (at : ℕ) (rest : Text) (q : Result X ReportKind) → after (placed at rest (closed_by q)) (chosen_reading bs) ≡ placed at rest q
  by_closing bs at rest (Ok x) = refl
  by_closing bs at rest (Err kind) = refl

  by_lexeme : (room : Bool) (closing : Result X ReportKind) (bs : Branches X) (text : Text)
      → (step_at (chosen room bs) (Err Token) (closed_by closing) (Err Ended) >>= chosen_reading bs) text ≡ branch_or room closing bs text
  by_lexeme room closing bs (WordAt at w rest) = by_word room bs at w rest
  by_lexeme room closing bs (OpenAt at rest) = refl
  by_lexeme room closing bs (CloseAt at rest) = by_closing bs at rest closing
  by_lexeme room closing bs (EndAt at) = refl

  -- what comes after each word
  abbrev pub AllOnline : Branches X → Type 0
  AllOnline [] = Unit {0}
  AllOnline (b ∷ bs) = IsOnline b.1 × AllOnline bs

  chosen_online : (bs : Branches X) → AllOnline bs → (c : Choice X) → IsOnline (chosen_reading bs c)
  chosen_online [] all (Closed x) = online_give x
  chosen_online (b ∷ bs) all (Closed x) = online_give x
  chosen_online [] all (Branch n) = online_over Token Ended
  chosen_online (b ∷ bs) all (Branch zero) = all.0
  chosen_online (b ∷ bs) all (Branch (suc n)) = chosen_online bs all.1 (Branch n)

  pub online_branch : (room : Bool) (closing : Result X ReportKind) (bs : Branches X) → AllOnline bs → IsOnline (branch_or room closing bs)
  online_branch room closing bs all = online_same _ _ (by_lexeme room closing bs)
      (online_then (step_at (chosen room bs) (Err Token) (closed_by closing) (Err Ended)) (chosen_reading bs) (online_step (chosen room bs) (Err Token) (closed_by closing) (Err Ended)) (chosen_online bs all))
