use Rattle.std.proofs.Common.{List, length, subst, sym}
use Rattle.plan_terms.specs.Terms.{AreDemands, Demand, IsSurvivable, case, case_of}
use Rattle.trim_plan.specs.Trimmed.{IsRoutedPlan, IsTrimming}
use Rattle.plan_reports.{proofs.PlansOf.lone_plans_carry, proofs.Trimming.{routed_plan, trimmed_report}}
use Rattle.plan_reports.proofs.trim.trim_planned.Goals as goal

pub trim-requires-clause-belong : goal.trim-requires-clause-belong
trim-requires-clause-belong c =
    let i = c.args.instance.now in
    subst (AreDemands (length i.net.now.nodes)) (sym ((lone_plans_carry (case_of i) i.net.now.notes c.args.planned c.requires).0.demands)) i.belong

pub trim-requires-clause-survivable : goal.trim-requires-clause-survivable
trim-requires-clause-survivable c =
    let i = c.args.instance.now in
    subst (λ (ds : List Demand). IsSurvivable (case i.net.now i.states.now ds)) (sym ((lone_plans_carry (case_of i) i.net.now.notes c.args.planned c.requires).0.demands)) (lone_plans_carry (case_of i) i.net.now.notes c.args.planned c.requires).1

pub trim-requires-clause-routed : goal.trim-requires-clause-routed
trim-requires-clause-routed c =
    let i = c.args.instance.now in
    subst (λ (ds : List Demand). IsRoutedPlan (case i.net.now i.states.now ds) c.args.planned.plan) (sym ((lone_plans_carry (case_of i) i.net.now.notes c.args.planned c.requires).0.demands)) (routed_plan (case_of i) i.net.now.notes c.args.planned c.requires)

pub returns : goal.returns
returns c =
    let i = c.args.instance.now in
    trimmed_report (case_of i) i.net.now.notes c.args.planned c.requires c.in_ok-trimmed.trimmed
    (subst (λ (ds : List Demand). IsTrimming (case i.net.now i.states.now ds) c.args.planned.plan c.in_ok-trimmed.trimmed) (lone_plans_carry (case_of i) i.net.now.notes c.args.planned c.requires).0.demands c.in_ok-trimmed.ensures)
