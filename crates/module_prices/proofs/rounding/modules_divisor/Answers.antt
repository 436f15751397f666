use Rattle.module_prices.proofs.Divisors.{module_divisor_step}
use Rattle.module_prices.proofs.rounding.modules_divisor.Goals as goal

pub loop-m-preserved : goal.loop-m-preserved
loop-m-preserved c = module_divisor_step (λ m. m.cost) c.loop-m.m-index c.args.modules.now _ c.loop-m.common c.common_divisor-common.result c.loop-m-test.true c.loop-m.invariant c.common_divisor-common.ensures
