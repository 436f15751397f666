use Rattle.std.proofs.Common.{◌<◌, IfSome}
use Rattle.node_sets.proofs.threshold.nearest_outside.Given as goal

-- the nearest so far is a node
abbrev pub invariant-loop-k : goal.invariant-loop-k
invariant-loop-k l = IfSome l.nearest (λ near. near.0.0 < l.distances.nodes)
