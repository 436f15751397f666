use Rattle.std.{proofs.Common.{◌≤◌, AllPairs, length, rules, arith, ap, subst, sym, ◌∙◌}, proofs.lemmas.List.Sorted.answers_always}
use Rattle.net_core.proofs.Library.{IsNonDecreasingBy-from_sort_by_key, all_written}
use Rattle.session_run.{specs.Transcripts.{outcome_caller, outcomes_of}, proofs.Callers.stays_same}
use Rattle.session_run.proofs.reports.by_caller.Goals as goal

pub returns-clause-ordered : goal.returns-clause-ordered
returns-clause-ordered c =
    let rising = IsNonDecreasingBy-from_sort_by_key outcome_caller _ c.in_ok-sort_by_key.ensures.sorted (λ a r q k. search rules) in
    let len = c.in_ok-sort_by_key.ensures.len ∙ ap length c.items_mut.ensures.value in
    subst (AllPairs (λ a b. outcome_caller a ≤ outcome_caller b)) (sym (all_written c.args.outcomes c.sort_by_key.new.self len))
    (λ i j d lt below. rising i j d (omega (arith, lt)) below)

pub returns-clause-same : goal.returns-clause-same
returns-clause-same c =
    let len = c.in_ok-sort_by_key.ensures.len ∙ ap length c.items_mut.ensures.value in
    let whole = all_written c.args.outcomes c.sort_by_key.new.self len in
    let stable = c.in_ok-sort_by_key.ensures.stable outcome_caller (answers_always _ _ _ (λ f a r next called. search rules)) in
    λ caller. ap (outcomes_of caller) whole ∙ stays_same c.items_mut.result.now c.sort_by_key.new.self stable caller ∙ ap (outcomes_of caller) c.items_mut.ensures.value
