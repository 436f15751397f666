use Rattle.std.{proofs.Common.{ℕ, ap, arith, get_or, length, map}, specs.Vec.Iter.into_iter_items}
use Rattle.line_maker.{specs.Orders.{cuts_among, lines_among, moved_line}, proofs.Moves.{cuts_on, lines_on}}
use Rattle.line_maker.proofs.order.parted.Goals as goal

pub loop-entry-preserved : goal.loop-entry-preserved
loop-entry-preserved c =
    let left = into_iter_items c.loop-entry.entry-iterator in
    let rest = into_iter_items c.next.new.self in
    let e = c.in-Some.entry in
    let step = c.in-Some.ensures.steps in
    let so_far = c.loop-entry.invariant in
    let to : ℕ → ℕ = λ i. get_or c.args.places.now i i in
    let told = c.in_ok-put.ensures in (
      cuts_on c.loop-entry.cuts c.put.new.cuts (cuts_among c.args.entries) left rest e step.0 so_far.0 told.cuts,
      lines_on to c.loop-entry.lines c.put.new.lines (map (moved_line to) (lines_among c.args.entries)) left rest e step.0 so_far.1 told.lines,
      omega (arith, step.1, so_far.2, ap length step.0),
    )
