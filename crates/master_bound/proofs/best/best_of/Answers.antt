use Rattle.std.proofs.Common.{length, refl}
use Rattle.net_core.proofs.Library.{slice_get_read}
use Rattle.master_bound.proofs.Greatest.{best_first, best_more}
use Rattle.master_bound.proofs.best.best_of.Goals as goal

pub loop-k-init : goal.loop-k-init
loop-k-init c =
    let cuts = c.args.cuts.now in
    let at = slice_get_read cuts (length cuts) 0 c.index-cuts-0.result refl c.requires.some c.index-cuts-0.is in
    best_first c.args.net.now.links cuts c.index-cuts-0.result (record { cut = 0; bound = c.own_bound.result }) at refl c.own_bound.ensures

pub loop-k-preserved : goal.loop-k-preserved
loop-k-preserved c =
    let cuts = c.args.cuts.now in
    let at = slice_get_read cuts (length cuts) c.loop-k.k c.index-cuts-k.result refl c.loop-k-test.true c.index-cuts-k.is in
    best_more c.args.net.now.links cuts c.loop-k.k c.index-cuts-k.result c.loop-k.best c.better-best.result at c.loop-k.invariant c.better-best.ensures
