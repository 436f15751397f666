use Rattle.std.proofs.Common.{ℕ, ◌↔◌, All, take}
use Rattle.net_core.proofs.Library.{◌∣◌}
use Rattle.box_program.specs.Divisors.{DividesNumbers}
use Rattle.box_program.proofs.divisors.common_unit.Given as goal

-- the divisor of the lines so far
abbrev pub invariant-loop-t : goal.invariant-loop-t
invariant-loop-t l = (d : ℕ) → (d ∣ l.unit) ↔ (d ∣ 0) × All (λ t. DividesNumbers d t.line) (take l.t-index l.tested)
