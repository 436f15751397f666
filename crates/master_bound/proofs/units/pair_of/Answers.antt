use Rattle.master_bound.proofs.Lowest.{unit_cost_low}
use Rattle.master_bound.proofs.units.pair_of.Goals as goal

pub returns-in-Some-clause-cost : goal.returns-in-Some-clause-cost
returns-in-Some-clause-cost c = unit_cost_low c.args.modules.now c.in-Some.pair.capacity c.in-Some.pair.cost c.requires (rw c.in-Some.is at c.unit_pair.ensures.pair)
