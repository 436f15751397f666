use Rattle.std.proofs.Common.{map, take}
use Rattle.report_comments.specs.Comments.{AddsLines}
use Rattle.tree_lines.specs.TreeLines.{node_items}
use Rattle.tree_lines.proofs.nodes.put_nodes.Given as goal

abbrev pub invariant-loop-node : goal.invariant-loop-node
invariant-loop-node l = AddsLines l.fn.text (map (node_items l.links l.demands) (take l.node-index l.nodes)) l.text
