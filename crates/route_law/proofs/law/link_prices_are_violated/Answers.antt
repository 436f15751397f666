use Rattle.route_law.proofs.Kept.{link_prices_are_violated}
use Rattle.route_law.proofs.law.link_prices_are_violated.Goals as goal

pub returns : goal.returns
returns c = link_prices_are_violated
