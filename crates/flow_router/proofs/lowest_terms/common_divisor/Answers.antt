use Rattle.std.proofs.Common.{subst}
use Rattle.net_core.proofs.Library.{IsGcd}
use Rattle.plan_terms.specs.Terms.{Flow}
use Rattle.flow_router.proofs.Dividing.{common_more}
use Rattle.flow_router.proofs.lowest_terms.common_divisor.Goals as goal

pub loop-f-preserved : goal.loop-f-preserved
loop-f-preserved c =
    common_more c.args.den c.args.flows.now c.loop-f.f-index c.loop-f.common c.gcd-common.result c.f-item.result c.loop-f-test.true c.loop-f.invariant
    (subst (λ (f : Flow). IsGcd c.loop-f.common f.num c.gcd-common.result) c.f-item.is c.gcd-common.ensures)
