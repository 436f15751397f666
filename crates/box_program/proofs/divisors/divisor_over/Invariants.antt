use Rattle.std.proofs.Common.{ℕ, ◌↔◌, All, take}
use Rattle.net_core.proofs.Library.{◌∣◌}
use Rattle.box_program.proofs.divisors.divisor_over.Given as goal

-- the divisor of the lists so far
abbrev pub invariant-loop-numbers : goal.invariant-loop-numbers
invariant-loop-numbers l = (d : ℕ) → (d ∣ l.unit) ↔ (d ∣ l.fn.unit) × All (λ numbers. All (λ n. d ∣ n) numbers) (take l.numbers-index l.lists)
