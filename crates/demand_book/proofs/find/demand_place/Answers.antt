use Rattle.std.proofs.Common.{◌∙◌, ap, is_some}
use Rattle.demand_book.proofs.Changed.{place_known}
use Rattle.demand_book.proofs.find.demand_place.Goals as goal

pub returns-clause-known : goal.returns-clause-known
returns-clause-known c = ap is_some c.first_demand.ensures ∙ place_known _ c.args.demands.now
