use Rattle.length_master.specs.inner.Tests.{AreEven}
use Rattle.length_master.proofs.priced_lengths.are_even.Given as goal

-- the slots so far gain what they cost
abbrev pub invariant-loop-j : goal.invariant-loop-j
invariant-loop-j l = AreEven l.links l.pairs l.cuts l.rows l.duals l.j
