use Rattle.checked_fraction.{specs.Rows.num, specs.inner.Passes.IsRowGcd}
use Rattle.checked_fraction.proofs.lowest.divisor_of.Given as goal

-- the divisor of the numbers so far
abbrev pub invariant-loop-k : goal.invariant-loop-k
invariant-loop-k l = IsRowGcd (num l.raw) l.k l.whole l.common.value
