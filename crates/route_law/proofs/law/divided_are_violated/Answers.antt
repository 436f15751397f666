use Rattle.route_law.proofs.Multiples.{divided_are_violated}
use Rattle.route_law.proofs.law.divided_are_violated.Goals as goal

pub returns : goal.returns
returns c = divided_are_violated
