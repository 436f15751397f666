use Rattle.metric_cut.proofs.Leasts.{least_of_all}
use Rattle.metric_cut.proofs.ratio.least_ratio.Goals as goal

pub returns-clause-least : goal.returns-clause-least
returns-clause-least c = least_of_all c.args.links.now c.args.lengths.now c.loop-e.e c.loop-e.least c.loop-e-test.false c.requires.sound c.requires.lengths c.loop-e.invariant
