use Rattle.box_program.specs.inner.BoxPrograms.{AreBoxEntries}
use Rattle.box_program.proofs.columns.line_entries.Given as goal

-- the entries of the modules so far
abbrev pub invariant-loop-row : goal.invariant-loop-row
invariant-loop-row l = AreBoxEntries l.row l.entries
