use Rattle.cut_pool.proofs.Following.{summed_anew}
use Rattle.cut_pool.proofs.pooled_cut.PooledCut.summed.Goals as goal

pub returns : goal.returns
returns c = summed_anew c.args.demands.now c.args.self.now c.right.result c.requires c.right.ensures.right
