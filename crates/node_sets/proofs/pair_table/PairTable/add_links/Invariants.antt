use Rattle.std.proofs.Common.{◌≡◌, length}
use Rattle.node_sets.proofs.pair_table.PairTable.add_links.Given as goal

-- the table is that of the network's nodes
abbrev pub invariant-loop-e : goal.invariant-loop-e
invariant-loop-e l = l.self.nodes ≡ length l.task.graph.net.now.nodes
