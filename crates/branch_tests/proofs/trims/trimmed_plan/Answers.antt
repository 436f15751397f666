use Rattle.std.proofs.Common.{List, length, subst, sym}
use Rattle.plan_terms.specs.Terms.{AreDemands, Demand, IsSurvivable, case}
use Rattle.trim_plan.specs.Trimmed.{IsRoutedPlan}
use Rattle.branch_tests.proofs.trims.trimmed_plan.Goals as goal

pub trim-requires-clause-belong : goal.trim-requires-clause-belong
trim-requires-clause-belong c = let i = c.args.instance.now in subst (AreDemands (length i.net.now.nodes)) (sym c.requires.demands) i.belong

pub trim-requires-clause-survivable : goal.trim-requires-clause-survivable
trim-requires-clause-survivable c =
    let i = c.args.instance.now in
    subst (λ (ds : List Demand). IsSurvivable (case i.net.now i.states.now ds)) (sym c.requires.demands) c.requires.survivable

pub trim-requires-clause-routed : goal.trim-requires-clause-routed
trim-requires-clause-routed c =
    let i = c.args.instance.now in
    subst (λ (ds : List Demand). IsRoutedPlan (case i.net.now i.states.now ds) c.args.plan) (sym c.requires.demands) c.requires.routed
