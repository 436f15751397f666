use Rattle.std.proofs.Common.{arith}
use Rattle.module_prices.proofs.UnitCosts.{dearer_stays}
use Rattle.module_prices.proofs.lengths.dearer.Goals as goal

pub returns-then-crossed : goal.returns-then-crossed
returns-then-crossed c = dearer_stays c.args.modules.now c.args.other c.cheapest-m.result c.requires.each c.requires.sound c.cheapest-m.ensures (omega (arith, c.if-crossed.true))
