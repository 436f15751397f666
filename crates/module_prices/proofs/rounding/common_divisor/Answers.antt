use Rattle.std.proofs.Common.{◌<◌, ◌^◌, arith}
use Rattle.module_prices.proofs.Divisors.{divisor_low}
use Rattle.module_prices.proofs.rounding.common_divisor.Goals as goal

pub overflow_cast-result : goal.overflow_cast-result
overflow_cast-result c =
    let low : c.gcd.result < 2 ^ 64 = divisor_low c.args.a c.args.b c.gcd.result (2 ^ 64) (omega (arith, c.ranges.a.fits)) (omega (arith, c.ranges.b.fits)) c.gcd.ensures in
    omega (arith, low)
