use Rattle.std.proofs.Common.{subst, sym}
use Rattle.plan_terms.specs.Terms.{case, case_of}
use Rattle.plan_checker.{specs.PlanFindings.{HoldsDemandsDiffer, own_findings}, specs.inner.Tests.TellFirst, proofs.Firsts.told_later}
use Rattle.plan_checker.proofs.plan.check_instance.Goals as goal

pub check_own-requires-clause-demands : goal.check_own-requires-clause-demands
check_own-requires-clause-demands c = c.in_ok-check_demands.ensures.same

pub returns-clause-told : goal.returns-clause-told
returns-clause-told c =
    let i = c.args.instance.now in
    let plan = c.args.plan.now in
    let same = c.in_ok-check_demands.ensures.same in
    told_later (HoldsDemandsDiffer (case_of i) plan) (own_findings (case i.net.now i.states.now plan.demands) c.args.full plan) c.check_own.result c.in_ok-check_demands.ensures.told
    (subst (λ ds. TellFirst (own_findings (case i.net.now i.states.now ds) c.args.full plan) c.check_own.result) (sym same) c.check_own.ensures.told)
