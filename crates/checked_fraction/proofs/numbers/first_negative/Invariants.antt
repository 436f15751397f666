use Rattle.std.proofs.Common.{ℕ, pos, ◌<◌, ◌≤ℤ◌}
use Rattle.checked_fraction.specs.Rows.{num}
use Rattle.checked_fraction.proofs.numbers.first_negative.Given as goal

-- no number so far is negative
abbrev pub invariant-loop-k : goal.invariant-loop-k
invariant-loop-k l = (k : ℕ) → k < l.k → pos 0 ≤ℤ num l.nums k
