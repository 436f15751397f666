use Rattle.std.proofs.Common.{◌≡◌, length}
use Rattle.node_sets.proofs.pair_table.PairTable.add_demands.Given as goal

-- the table is that of the network's nodes
abbrev pub invariant-loop-d : goal.invariant-loop-d
invariant-loop-d l = l.self.nodes ≡ length l.task.graph.net.now.nodes
