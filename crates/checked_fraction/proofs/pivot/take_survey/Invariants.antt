use Rattle.std.proofs.Common.{ℕ, ◌<◌, ◌≤◌, unsigned_abs}
use Rattle.checked_fraction.specs.inner.Passes.{raw, IsRowGcd}
use Rattle.checked_fraction.proofs.pivot.take_survey.Given as goal

-- the divisor and the bound of the numbers so far
abbrev pub invariant-loop-k : goal.invariant-loop-k
invariant-loop-k l = record {
  common : IsRowGcd (raw l.nums l.pivot l.mix) l.k l.whole l.common.value;
  top : (k : ℕ) → k < l.k → unsigned_abs (raw l.nums l.pivot l.mix k) ≤ l.top;
}
