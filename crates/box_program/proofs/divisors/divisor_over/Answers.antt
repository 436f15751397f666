use Rattle.std.proofs.Common.{ℕ, ◌∙◌, ◌↔◌, List, All, subst, arith, take_all}
use Rattle.net_core.proofs.Library.{◌∣◌}
use Rattle.box_program.proofs.Dividing.{divides_greatest, divisors_more}
use Rattle.box_program.proofs.divisors.divisor_over.Goals as goal

pub loop-numbers-preserved : goal.loop-numbers-preserved
loop-numbers-preserved c =
    divisors_more (λ d (numbers : List ℕ). All (λ n. d ∣ n) numbers) c.args.unit c.loop-numbers.unit c.common_divisor-unit.result c.args.lists.now c.loop-numbers.numbers-index c.numbers-item.result c.loop-numbers-test.true c.loop-numbers.invariant
    (λ d. subst (λ (numbers : List ℕ). (d ∣ c.common_divisor-unit.result) ↔ (d ∣ c.loop-numbers.unit) × All (λ n. d ∣ n) numbers) (c.items.ensures ∙ c.numbers-item.is)
    (divides_greatest c.loop-numbers.unit c.items.result.now c.common_divisor-unit.result c.common_divisor-unit.ensures d))

pub returns : goal.returns
returns c =
    subst (λ xs. (d : ℕ) → (d ∣ c.loop-numbers.unit) ↔ (d ∣ c.args.unit) × All (λ numbers. All (λ n. d ∣ n) numbers) xs)
    (take_all c.loop-numbers.numbers-index c.args.lists.now (omega (arith, c.loop-numbers-test.false))) c.loop-numbers.invariant
