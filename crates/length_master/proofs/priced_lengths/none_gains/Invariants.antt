use Rattle.length_master.specs.inner.Tests.{NoneGains}
use Rattle.length_master.proofs.priced_lengths.none_gains.Given as goal

-- none of the cuts so far gains more
abbrev pub invariant-loop-k : goal.invariant-loop-k
invariant-loop-k l = NoneGains l.links l.pairs l.cuts l.duals l.k
