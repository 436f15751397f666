use Rattle.std.proofs.Common.{arith}
use Rattle.net_core.proofs.Library.{le_of_dvd}
use Rattle.plan_rounds.proofs.Sharing.{divides_all}
use Rattle.plan_rounds.proofs.shares.scale_divisor.Goals as goal

pub overflow_cast-result : goal.overflow_cast-result
overflow_cast-result c =
    let divides = divides_all c.args.scale c.args.nums.now c.common_divisor.result c.requires c.common_divisor.ensures in
    let le = le_of_dvd c.requires divides.of_scale in
    omega (arith, le, c.ranges.scale.fits)

pub returns : goal.returns
returns c = divides_all c.args.scale c.args.nums.now c.common_divisor.result c.requires c.common_divisor.ensures
