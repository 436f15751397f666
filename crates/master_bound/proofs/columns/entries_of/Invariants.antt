use Rattle.master_bound.specs.inner.Programs.{AreEntriesOf}
use Rattle.master_bound.proofs.columns.entries_of.Given as goal

-- the entries so far
abbrev pub invariant-loop-e : goal.invariant-loop-e
invariant-loop-e l = AreEntriesOf l.pairs l.lengths l.e l.entries
