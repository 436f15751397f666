use Rattle.length_master.specs.inner.Slots.{ArePlacedRows}
use Rattle.length_master.proofs.tested_basis.are_placed.Given as goal

-- the rows so far are placed
abbrev pub invariant-loop-i : goal.invariant-loop-i
invariant-loop-i l = ArePlacedRows l.cuts l.rows l.i
