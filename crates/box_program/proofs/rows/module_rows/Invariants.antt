use Rattle.box_program.specs.inner.BoxRows.{AreRowsBefore}
use Rattle.box_program.proofs.rows.module_rows.Given as goal

-- the rows of the links so far
abbrev pub invariant-loop-link : goal.invariant-loop-link
invariant-loop-link l = AreRowsBefore l.links l.boxed l.link 0 l.rows
