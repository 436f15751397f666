use Rattle.checked_fraction.{specs.Rows.num, specs.inner.Passes.IsRowGcd}
use Rattle.checked_fraction.proofs.scale.divisor_of.Given as goal

-- the divisor of the numbers so far
abbrev pub invariant-loop-num : goal.invariant-loop-num
invariant-loop-num l = IsRowGcd (num l.nums) l.num-index l.whole l.common
