use Rattle.length_master.specs.inner.Tests.{AreFilled}
use Rattle.length_master.proofs.tested_basis.are_filled.Given as goal

-- the rows so far are filled
abbrev pub invariant-loop-e : goal.invariant-loop-e
invariant-loop-e l = AreFilled l.pairs l.cuts l.rows l.values l.den l.e
