use Rattle.master_bound.specs.inner.Lines.{AreBasisMultipliers}
use Rattle.master_bound.proofs.lines.multipliers_of.Given as goal

-- the multipliers so far
abbrev pub invariant-loop-j : goal.invariant-loop-j
invariant-loop-j l = AreBasisMultipliers l.cuts l.basis l.amounts l.common l.j l.multipliers
