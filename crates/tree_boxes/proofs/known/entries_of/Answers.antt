use Rattle.std.{proofs.Common.{ap, arith, length, map}, specs.Vec.Iter.into_iter_items}
use Rattle.tree_boxes.proofs.Knowing.{entries_more}
use Rattle.line_maker.specs.declared.entry.Entry.TheVariants as entry
use Rattle.tree_boxes.proofs.known.entries_of.Goals as goal

pub loop-cut-preserved : goal.loop-cut-preserved
loop-cut-preserved c =
    let left = into_iter_items c.loop-cut.cut-iterator in
    let rest = into_iter_items c.next.new.self in
    let cut = c.in-Some.cut in
    let step = c.in-Some.ensures.steps in
    let so_far = c.loop-cut.invariant in (
      rw c.in_ok-push.ensures.ok (entries_more c.loop-cut.entries (map entry.Cut c.args.cuts) left rest cut step.0 so_far.0),
      omega (arith, step.1, so_far.1, ap length step.0),
    )
