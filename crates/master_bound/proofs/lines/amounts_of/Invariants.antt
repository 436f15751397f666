use Rattle.master_bound.specs.inner.Lines.{AreAmounts}
use Rattle.master_bound.proofs.lines.amounts_of.Given as goal

-- the amounts so far
abbrev pub invariant-loop-j : goal.invariant-loop-j
invariant-loop-j l = AreAmounts l.basis l.values l.j l.amounts
