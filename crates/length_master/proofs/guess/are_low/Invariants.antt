use Rattle.std.proofs.Common.{ℕ, ◌<◌, ◌≤◌, ◌^◌, unsigned_abs}
use Rattle.checked_fraction.specs.Terms.{num}
use Rattle.length_master.proofs.guess.are_low.Given as goal

-- the numbers so far are low
abbrev pub invariant-loop-k : goal.invariant-loop-k
invariant-loop-k l = (j : ℕ) → j < l.k → unsigned_abs (num l.raw j) ≤ 2 ^ 124
