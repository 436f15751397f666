use Rattle.std.proofs.Common.{Ok, ap, ◌∙◌}
use Rattle.report_words.proofs.Once.{link_once}
use Rattle.report_words.proofs.context.link_places.Goals as goal

pub unreachable-requires : goal.unreachable-requires
unreachable-requires c =
    link_once c.args.net.now.nodes c.args.net.now.links c.items-links.result.now c.loop-link.link-index c.link-item.result c.bytes.result.now c.loop-link.places c.args.net.now.checked (c.items-links.ensures ∙ c.links.ensures) c.loop-link-test.true c.link-item.is c.bytes.ensures.value c.loop-link.invariant (c.in_ok-add.ensures.old (ap Ok c.if-not-branch.true))
