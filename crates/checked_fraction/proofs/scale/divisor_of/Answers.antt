use Rattle.std.{proofs.Common.{◌≡◌, unsigned_abs, arith}, proofs.lemmas.Nat.Gcd.le_of_dvd}
use Rattle.net_core.proofs.Library.{ints, IsGcd-swap, positive_divisor}
use Rattle.checked_fraction.{specs.Rows.num, proofs.Divisors.{row_gcd_more, row_gcd_one}}
use Rattle.checked_fraction.proofs.scale.divisor_of.Goals as goal

pub returns-then-common-eq1-clause-gcd : goal.returns-then-common-eq1-clause-gcd
returns-then-common-eq1-clause-gcd c = row_gcd_one (num c.args.nums.now) _ _ _ _ c.loop-num.auto.num-index-end c.if-common-eq1.true c.loop-num.invariant

pub loop-num-preserved : goal.loop-num-preserved
loop-num-preserved c =
    let size : c.unsigned_abs.result ≡ unsigned_abs (num c.args.nums.now c.loop-num.num-index) = omega (arith, ints) in
    row_gcd_more (num c.args.nums.now) _ _ _ c.unsigned_abs.result _ c.loop-num.invariant size (IsGcd-swap _ _ _ c.word_gcd-common.ensures)

pub returns-clause-positive : goal.returns-clause-positive
returns-clause-positive c = positive_divisor _ _ c.requires c.loop-num.invariant.of_whole

pub returns-clause-low : goal.returns-clause-low
returns-clause-low c = le_of_dvd c.requires c.loop-num.invariant.of_whole
