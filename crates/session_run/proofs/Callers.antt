-- a stable sort by the caller keeps the outcomes of each caller
use Rattle.std.{proofs.Common.{◌≡◌, ℕ, ◌==◌, List, [], nat_cmp, is_lt, sym, ◌∙◌, arith}, proofs.lemmas.List.Elements.filter_agree, specs.List.Sorted.IsStableByKey}
use Rattle.net_core.proofs.Library.{nat_tests, ties}
use Rattle.plan_report.specs.Terms.{Outcome, Unsurvivable}
use Rattle.session_run.specs.Transcripts.{outcome_caller, outcomes_of}

ties_at : (m n : ℕ) → ties (λ x y. is_lt (nat_cmp x y)) m n ≡ (n == m)
ties_at m n = grind (arith, nat_tests)

pub stays_same : (xs ys : List Outcome) → IsStableByKey outcome_caller nat_cmp xs ys → (caller : ℕ) → outcomes_of caller ys ≡ outcomes_of caller xs
stays_same xs ys stable caller =
    let some : Outcome = Unsurvivable caller 0 0 0 (record { 0 = 0 }) [] in
    let test : (o : Outcome) → (outcome_caller o == caller) ≡ ties (λ x y. is_lt (nat_cmp (outcome_caller x) (outcome_caller y))) some o =
    λ o. sym (ties_at caller (outcome_caller o)) in
    filter_agree (λ o. outcome_caller o == caller) (ties (λ x y. is_lt (nat_cmp (outcome_caller x) (outcome_caller y))) some) test ys
    ∙ stable some
    ∙ sym (filter_agree (λ o. outcome_caller o == caller) (ties (λ x y. is_lt (nat_cmp (outcome_caller x) (outcome_caller y))) some) test xs)
