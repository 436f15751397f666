use Rattle.std.proofs.Common.{subst}
use Rattle.flow_router.{specs.Lowest.IsCommonDivisor, proofs.Dividing.in_lowest}
use Rattle.flow_router.proofs.lowest_terms.lowest.Goals as goal

pub divide_list-requires-clause-divides : goal.divide_list-requires-clause-divides
divide_list-requires-clause-divides c = rw c.items.ensures at c.common_divisor-common.ensures.of_nums

pub returns : goal.returns
returns c =
    in_lowest c.args.routing.den c.common_divisor-common.result c.args.routing.flows c.divide_list.new.flows c.requires
    (subst (λ fs. IsCommonDivisor c.args.routing.den fs c.common_divisor-common.result) c.items.ensures c.common_divisor-common.ensures) c.divide_list.ensures
