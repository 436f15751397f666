use Rattle.std.proofs.Common.{refl}
use Rattle.sample_net.{specs.Samples.ring_ends, proofs.Sequence.one_more}
use Rattle.sample_net.proofs.ends.ring.Goals as goal

pub loop-i-preserved : goal.loop-i-preserved
loop-i-preserved c = rw (c.in_ok-push.ensures.ok) (one_more (ring_ends c.args.n) c.loop-i.ends c.loop-i.i _ c.loop-i.invariant refl)
