use Rattle.std.proofs.Common.{arith, refl}
use Rattle.net_core.proofs.Library.{le_of_dvd, positive_divisor}
use Rattle.plan_rounds.proofs.Undividing.{undivided_of}
use Rattle.plan_rounds.proofs.whole_routings.undivided.Goals as goal

pub overflow_cast-common : goal.overflow_cast-common
overflow_cast-common c = let le = le_of_dvd c.requires.positive c.gcd-common.ensures.1 in omega (arith, le, c.ranges.divisor.fits)

pub nonzero_div-divisor : goal.nonzero_div-divisor
nonzero_div-divisor c = positive_divisor c.gcd-common.result c.args.divisor c.requires.positive c.gcd-common.ensures.1

pub nonzero_div-result : goal.nonzero_div-result
nonzero_div-result c = positive_divisor c.gcd-common.result c.args.divisor c.requires.positive c.gcd-common.ensures.1

pub returns : goal.returns
returns c =
    undivided_of c.args.divisor c.gcd-common.result c.args.routing _ c.requires.positive c.gcd-common.ensures refl c.multiply_list.ensures
