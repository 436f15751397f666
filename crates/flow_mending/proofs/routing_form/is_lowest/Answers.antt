use Rattle.std.proofs.Common.{◌≡◌, arith, subst}
use Rattle.flow_router.specs.Lowest.{IsCommonDivisor}
use Rattle.flow_mending.proofs.Counted.{lowest_from}
use Rattle.flow_mending.proofs.routing_form.is_lowest.Goals as goal

pub returns : goal.returns
returns c one =
    let same : c.common_divisor.result ≡ 1 = grind (arith, one) in
    lowest_from c.args.routing.now c.common_divisor.result
    (subst (λ fs. IsCommonDivisor c.args.routing.now.den fs c.common_divisor.result) c.items.ensures c.common_divisor.ensures) same
