use Rattle.std.proofs.Common.{◌≡◌, ◌++◌, drop, get_or, length, take}
use Rattle.plan_swaps.proofs.Shapes.{length_written, shape_set}
use Rattle.tree_boxes.proofs.whole.set_count.Goals as goal

pub returns-then-e-counts : goal.returns-then-e-counts
returns-then-e-counts c links are =
    let old = get_or c.args.counts.now c.args.e c.index-counts-e.result in
    let new = c.set_number.new.numbers in
    let same : length new ≡ length old = cc (c.set_number.ensures, c.items_mut.ensures.value, c.index-counts-e.is) in
    shape_set links c.args.counts.now c.args.e (take (length old) (new ++ drop (length new) old)) c.index-counts-e.result (length_written old new same) are
