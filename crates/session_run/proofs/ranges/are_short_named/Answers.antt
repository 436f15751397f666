use Rattle.std.proofs.Common.{All, subst, take_all}
use Rattle.net_core.proofs.Library.{All-more}
use Rattle.session_run.specs.inner.Ranges.{IsShortNamed}
use Rattle.session_run.proofs.ranges.are_short_named.Goals as goal

pub loop-outcome-preserved : goal.loop-outcome-preserved
loop-outcome-preserved c =
    All-more IsShortNamed c.args.outcomes.now c.loop-outcome.outcome-index c.outcome-item.result c.loop-outcome-test.true c.loop-outcome.invariant
    (subst IsShortNamed c.outcome-item.is c.is_short_named.ensures)

pub returns : goal.returns
returns c = subst (All IsShortNamed) (take_all c.loop-outcome.outcome-index c.args.outcomes.now c.loop-outcome-test.false) c.loop-outcome.invariant
