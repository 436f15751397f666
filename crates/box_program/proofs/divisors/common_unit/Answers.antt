use Rattle.std.proofs.Common.{◌↔◌, All, subst, arith, take_all}
use Rattle.net_core.proofs.Library.{dvd-zero, ◌∣◌}
use Rattle.tree_check.specs.Terms.{Tested}
use Rattle.box_program.{specs.Divisors.DividesNumbers, proofs.Dividing.divisors_more}
use Rattle.box_program.proofs.divisors.common_unit.Goals as goal

pub loop-t-preserved : goal.loop-t-preserved
loop-t-preserved c =
    divisors_more (λ d (t : Tested). DividesNumbers d t.line) 0 c.loop-t.unit c.divisor_of-unit.result c.args.tested.now c.loop-t.t-index c.t-item.result c.loop-t-test.true c.loop-t.invariant
    (λ d. subst (λ (t : Tested). (d ∣ c.divisor_of-unit.result) ↔ (d ∣ c.loop-t.unit) × DividesNumbers d t.line) c.t-item.is (c.divisor_of-unit.ensures d))

pub returns : goal.returns
returns c d =
    let all = subst (λ xs. (d ∣ c.loop-t.unit) ↔ (d ∣ 0) × All (λ (t : Tested). DividesNumbers d t.line) xs) (take_all c.loop-t.t-index c.args.tested.now (omega (arith, c.loop-t-test.false))) (c.loop-t.invariant d) in
    (λ h. (all.0 h).1, λ h. all.1 (dvd-zero d, h))
