use Rattle.std.proofs.Common.{arith}
use Rattle.net_core.proofs.Library.{slice_get_within}
use Rattle.module_choice.proofs.alike.greatest_need.Goals as goal

pub returns-clause-reached : goal.returns-clause-reached
returns-clause-reached c e l at alike low = c.loop-e.invariant.reached e l (omega (arith, slice_get_within c.args.links.now e l at, c.loop-e-test.false)) at alike low
