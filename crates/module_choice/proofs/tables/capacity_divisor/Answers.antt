use Rattle.std.proofs.Common.{◌<◌, ◌^◌, arith, map, subst, take_all}
use Rattle.plan_terms.specs.Terms.{Module, IsGreatestDivisor}
use Rattle.module_prices.proofs.Divisors.{module_divisor_step}
use Rattle.module_choice.proofs.Steps.{capacity_limit}
use Rattle.module_choice.proofs.tables.capacity_divisor.Goals as goal

pub loop-m-preserved : goal.loop-m-preserved
loop-m-preserved c = module_divisor_step (λ m. m.capacity) c.loop-m.m-index c.args.modules.now _ c.loop-m.common c.gcd-common.result c.loop-m-test.true c.loop-m.invariant c.gcd-common.ensures

-- it is as small as the capacities
small : (c : goal.After-loop-m) → c.loop-m.common < 2 ^ 40
small c = capacity_limit c.args.modules.now c.loop-m.common c.requires (subst (λ ms. IsGreatestDivisor (map (λ (m : Module). m.capacity) ms) c.loop-m.common) (take_all c.loop-m.m-index c.args.modules.now c.loop-m-test.false) c.loop-m.invariant)

pub overflow_cast-result : goal.overflow_cast-result
overflow_cast-result c = omega (arith, small c)

pub returns-clause-small : goal.returns-clause-small
returns-clause-small c = small c
