use Rattle.master_bound.proofs.UnitPairs.{ArePairsBelow}
use Rattle.master_bound.proofs.units.unit_pairs.Given as goal

-- the pairs of the links so far
abbrev pub invariant-loop-l : goal.invariant-loop-l
invariant-loop-l l = ArePairsBelow l.links l.pairs l.l-index
