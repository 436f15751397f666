use Rattle.std.proofs.Common.{◌∙◌, ap, is_some}
use Rattle.demand_book.proofs.Changed.{place_known}
use Rattle.demand_book.proofs.find.node_place.Goals as goal

pub returns-clause-known : goal.returns-clause-known
returns-clause-known c = ap is_some c.first_node.ensures ∙ place_known _ c.args.nodes.now
