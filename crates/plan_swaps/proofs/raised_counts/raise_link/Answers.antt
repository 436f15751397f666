use Rattle.std.proofs.Common.{◌≡◌, ◌++◌, length, drop, get_or, take}
use Rattle.plan_swaps.proofs.Shapes.{length_written, shape_set}
use Rattle.plan_swaps.proofs.raised_counts.raise_link.Goals as goal

pub returns-then-place-counts : goal.returns-then-place-counts
returns-then-place-counts c links are =
    let old = get_or c.args.counts.now c.args.place.link c.index-counts-place.result in
    let new = c.raise_module.new.counts in
    let same : length new ≡ length old = cc (c.raise_module.ensures, c.items_mut.ensures.value, c.index-counts-place.is) in
    shape_set links c.args.counts.now c.args.place.link (take (length old) (new ++ drop (length new) old)) c.index-counts-place.result (length_written old new same) are
