use Rattle.box_program.specs.inner.BoxRows.{AreRowsBefore}
use Rattle.box_program.proofs.rows.add_link.Given as goal

-- the rows of the modules so far
abbrev pub invariant-loop-m : goal.invariant-loop-m
invariant-loop-m l = AreRowsBefore l.links l.boxed l.link l.m l.rows
