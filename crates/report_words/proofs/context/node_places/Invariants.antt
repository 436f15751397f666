use Rattle.std.proofs.Common.{◌≡◌, take}
use Rattle.report_words.proofs.context.node_places.Given as goal

abbrev pub invariant-loop-node : goal.invariant-loop-node
invariant-loop-node l = l.places ≡ take l.node-index l.nodes
