use Rattle.std.proofs.Common.{Ok, ap, ◌∙◌}
use Rattle.report_words.proofs.Once.{node_once}
use Rattle.report_words.proofs.context.node_places.Goals as goal

pub unreachable-requires : goal.unreachable-requires
unreachable-requires c =
    node_once c.args.net.now.nodes c.args.net.now.links c.items-nodes.result.now c.loop-node.node-index c.node-item.result c.bytes.result.now c.loop-node.places c.args.net.now.checked (c.items-nodes.ensures ∙ c.nodes.ensures) c.loop-node-test.true c.node-item.is c.bytes.ensures.value c.loop-node.invariant (c.in_ok-add.ensures.old (ap Ok c.if-not-branch.true))
