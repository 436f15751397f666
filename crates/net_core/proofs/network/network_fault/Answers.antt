use Rattle.std.proofs.Common.{sym, ◌∙◌}
use Rattle.net_core.proofs.NetworkChecks.{nodes_found, links_found}
use Rattle.net_core.proofs.network.network_fault.Goals as goal

pub returns-then-is_some : goal.returns-then-is_some
returns-then-is_some c =
    nodes_found c.args.nodes.now c.args.links.now _ c.if-nodes-gt-MOST_NODES.false c.if-links-gt-MOST_LINKS.false c.first_node_fault-fault.ensures (sym c.is_some.ensures ∙ c.if-is_some.true)

pub returns : goal.returns
returns c =
    links_found c.args.nodes.now c.args.links.now _ _ c.if-nodes-gt-MOST_NODES.false c.if-links-gt-MOST_LINKS.false c.first_node_fault-fault.ensures (sym c.is_some.ensures ∙ c.if-is_some.false) c.first_link_fault.ensures
