use Rattle.std.proofs.Common.{subst}
use Rattle.plan_terms.specs.Terms.{IsGreatestDivisor, link_charges}
use Rattle.module_prices.proofs.Divisors.{link_divisor_step}
use Rattle.module_prices.proofs.rounding.cost_divisor.Goals as goal

pub loop-l-preserved : goal.loop-l-preserved
loop-l-preserved c =
    let here = subst (λ l. IsGreatestDivisor (link_charges l) c.link_divisor.result) c.l-item.is c.link_divisor.ensures in
    link_divisor_step c.loop-l.l-index c.args.links.now c.l-item.result c.loop-l.common c.link_divisor.result c.common_divisor-common.result c.loop-l-test.true c.loop-l.invariant here c.common_divisor-common.ensures
