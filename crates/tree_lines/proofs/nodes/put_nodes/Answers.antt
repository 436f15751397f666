use Rattle.std.proofs.Common.{arith}
use Rattle.report_comments.proofs.Lines.{line_next, lines_all, no_lines}
use Rattle.tree_lines.specs.TreeLines.{node_items}
use Rattle.tree_lines.proofs.nodes.put_nodes.Goals as goal

pub loop-node-init : goal.loop-node-init
loop-node-init c = no_lines c.args.text.now

pub loop-node-preserved : goal.loop-node-preserved
loop-node-preserved c = line_next (node_items c.args.links.now c.args.demands.now) c.args.nodes.now c.loop-node.node-index c.node-item.result c.loop-node-test.true c.node-item.is c.loop-node.invariant c.in_ok-put_node.ensures

pub returns : goal.returns
returns c = lines_all (node_items c.args.links.now c.args.demands.now) c.args.nodes.now c.loop-node.node-index (omega (arith, c.loop-node-test.false)) c.loop-node.invariant
