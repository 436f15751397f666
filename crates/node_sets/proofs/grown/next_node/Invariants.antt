use Rattle.std.proofs.Common.{◌<◌, IfSome}
use Rattle.node_sets.proofs.grown.next_node.Given as goal

-- the best so far is a node
abbrev pub invariant-loop-k : goal.invariant-loop-k
invariant-loop-k l = IfSome l.next (λ next. next.0.0 < l.nodes)
