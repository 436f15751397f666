use Rattle.route_law.proofs.Kept.{violated_carries_nothing}
use Rattle.route_law.proofs.law.violated_carries_nothing.Goals as goal

pub returns : goal.returns
returns c = violated_carries_nothing
