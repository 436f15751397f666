use Rattle.std.proofs.Common.{length, ap, arith}
use Rattle.key_rows.specs.Terms.{demand_in}
use Rattle.key_paths.proofs.entering.cost_of.Goals as goal

pub bounds-items-demand : goal.bounds-items-demand
bounds-items-demand c = omega (arith, c.requires.demand c.in-DemandSlack.demand (ap demand_in c.in-DemandSlack.is), ap length c.items.ensures)

pub bounds-items-demand-in-Carry : goal.bounds-items-demand-in-Carry
bounds-items-demand-in-Carry c = omega (arith, c.requires.demand c.in-Carry.demand (ap demand_in c.in-Carry.is), ap length c.items-in-Carry-2.ensures)
