use Rattle.route_law.proofs.Divided.{divided_are_priced}
use Rattle.route_law.proofs.law.divided_are_priced.Goals as goal

pub returns : goal.returns
returns c = divided_are_priced
