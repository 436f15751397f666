use Rattle.metric_cut.proofs.Keepings.{divisor_step}
use Rattle.metric_cut.proofs.kept_lengths.divisor_of_lengths.Goals as goal

pub loop-length-preserved : goal.loop-length-preserved
loop-length-preserved c = divisor_step c.loop-length.length-index c.args.lengths.now _ c.loop-length.common c.gcd-common.result c.loop-length-test.true c.loop-length.invariant c.gcd-common.ensures
