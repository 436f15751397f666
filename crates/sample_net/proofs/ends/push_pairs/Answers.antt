use Rattle.std.proofs.Common.{arith}
use Rattle.sample_net.proofs.Pairs.{pair_more}
use Rattle.sample_net.proofs.ends.push_pairs.Goals as goal

pub loop-j-preserved : goal.loop-j-preserved
loop-j-preserved c =
    (omega (arith, c.loop-j.invariant.0), rw (c.in_ok-push.ensures.ok) (pair_more c.args.pairs.now c.loop-j.pairs c.args.i c.loop-j.j c.loop-j.invariant.0 c.loop-j.invariant.1))
