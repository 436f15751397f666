use Rattle.length_master.specs.inner.Tests.{AreNamesBelow}
use Rattle.length_master.proofs.guess.names_of.Given as goal

-- the names so far
abbrev pub invariant-loop-j : goal.invariant-loop-j
invariant-loop-j l = AreNamesBelow l.cuts l.rows l.j l.names
