use Rattle.std.proofs.Common.{◌≡◌, Some, length, slice_get, refl}
use Rattle.net_core.proofs.Library.{slice_get_read}
use Rattle.tree_search.proofs.Opened.{best_more}
use Rattle.tree_search.proofs.tree.least_open.Goals as goal

pub loop-i-preserved : goal.loop-i-preserved
loop-i-preserved c =
    let twigs = c.args.twigs.now in
    let t = c.index-twigs-i.result in
    let at : slice_get twigs c.loop-i.i ≡ Some t = slice_get_read twigs (length twigs) c.loop-i.i t refl c.loop-i-test.true c.index-twigs-i.is in
    best_more twigs c.loop-i.i t c.loop-i.best c.rank_at.result c.lesser-best.result at c.loop-i.invariant c.rank_at.ensures c.lesser-best.ensures.either c.lesser-best.ensures.none
