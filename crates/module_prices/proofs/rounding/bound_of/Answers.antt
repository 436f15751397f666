use Rattle.std.proofs.Common.{arith}
use Rattle.plan_terms.proofs.Lemmas.{bound_rounded}
use Rattle.module_prices.proofs.Divisors.{rounded_up}
use Rattle.module_prices.proofs.rounding.bound_of.Goals as goal

pub overflow_mul-result : goal.overflow_mul-result
overflow_mul-result c =
    let g = c.cost_divisor-divisor.result in
    let round = rounded_up c.args.raw c.args.den g c.div_ceil.result c.div_ceil-2.result c.requires.positive (omega arith) c.div_ceil.ensures c.div_ceil-2.ensures in
    omega (arith, round.2, c.requires.raw, c.cost_divisor-divisor.type_inv)

pub returns : goal.returns
returns c =
    let g = c.cost_divisor-divisor.result in
    let round = rounded_up c.args.raw c.args.den g c.div_ceil.result c.div_ceil-2.result c.requires.positive (omega arith) c.div_ceil.ensures c.div_ceil-2.ensures in
    bound_rounded c.args.links.now c.args.raw c.args.den g c.div_ceil-2.result (omega arith) c.cost_divisor-divisor.ensures round.0 round.1
