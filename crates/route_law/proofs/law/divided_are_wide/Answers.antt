use Rattle.route_law.proofs.Divided.{divided_are_wide}
use Rattle.route_law.proofs.law.divided_are_wide.Goals as goal

pub returns : goal.returns
returns c = divided_are_wide
