use Rattle.sample_net.proofs.Pairs.{row_more}
use Rattle.sample_net.proofs.ends.all_pairs.Goals as goal

pub loop-i-preserved : goal.loop-i-preserved
loop-i-preserved c = rw (c.in_ok-push_pairs.ensures) (row_more c.args.n c.loop-i.pairs c.loop-i.i c.loop-i.invariant)
