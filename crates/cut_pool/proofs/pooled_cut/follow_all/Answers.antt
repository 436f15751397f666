use Rattle.std.proofs.Common.{refl}
use Rattle.cut_pool.proofs.Following.{followed_same}
use Rattle.cut_pool.proofs.pooled_cut.follow_all.Goals as goal

pub returns-else-not-is_none : goal.returns-else-not-is_none
returns-else-not-is_none c = followed_same c.args.change.now c.args.pool.now (c.if-not-is_none.ensures.0 refl) c.requires
