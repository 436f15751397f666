use Rattle.std.proofs.Common.{subst, sym, rules}
use Rattle.net_core.proofs.Library.{map_over_more}
use Rattle.cut_pool.{specs.inner.Pooling.{CanFollow, followed}, proofs.Following.next_right}
use Rattle.cut_pool.proofs.pooled_cut.follow_each.Goals as goal

pub follow-requires : goal.follow-requires
follow-requires c =
    let at = c.loop-k in
    subst (CanFollow c.args.change.now) (sym (next_right (followed c.args.change.now) c.args.pool.now at.pool at.k c.index-pool-k.result c.loop-k-test.true at.invariant))
    (c.requires at.k c.index-pool-k.result c.loop-k-test.true)

pub loop-k-preserved : goal.loop-k-preserved
loop-k-preserved c = search (rules, map_over_more (followed c.args.change.now))
