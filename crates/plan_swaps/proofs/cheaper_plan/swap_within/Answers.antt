use Rattle.std.proofs.Common.{◌≤◌, subst, sym}
use Rattle.plan_terms.specs.Terms.{case_of}
use Rattle.plan_swaps.{specs.declared.kept.Kept.Kept, specs.Swaps.IsCheaperPlan, specs.inner.Searching.AreCarryingCounts, proofs.Swapped.{cheaper_with, plan_carries}}
use Rattle.plan_swaps.proofs.cheaper_plan.swap_within.Goals as goal

pub swap_counts-requires-clause-kept : goal.swap_counts-requires-clause-kept
swap_counts-requires-clause-kept c =
    let p = case_of c.args.instance.now in
    subst (AreCarryingCounts p) (sym c.taken-kept.ensures) (plan_carries p c.args.plan.now c.requires.demands c.requires.routed)

pub returns : goal.returns
returns c =
    let p = case_of c.args.instance.now in
    let plan = c.args.plan.now in
    let swapped = c.in_ok-swap_counts.ensures in
    let kept = c.swap_counts.new.kept in
    let cheaper : kept.cost ≤ plan.cost = subst (λ (k : Kept). kept.cost ≤ k.cost) c.taken-kept.ensures swapped.cheaper in
    subst (IsCheaperPlan p plan) (sym c.set_counts.ensures) (cheaper_with p plan c.requires.demands c.requires.routed kept swapped.kept cheaper)
