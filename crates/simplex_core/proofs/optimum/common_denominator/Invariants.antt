use Rattle.simplex_core.specs.inner.Commons.{fraction_den, IsDenominator}
use Rattle.simplex_core.proofs.optimum.common_denominator.Given as goal

-- the denominator of the fractions so far
abbrev pub invariant-loop-i : goal.invariant-loop-i
invariant-loop-i l = IsDenominator (fraction_den l.fractions) l.i l.all
