use Rattle.std.{proofs.Common.{ℕ, ap, arith, get_or, length}, specs.Vec.Iter.into_iter_items}
use Rattle.line_maker.{specs.Orders.moved_multipliers, proofs.Moves.multipliers_more}
use Rattle.line_maker.proofs.nodes.moved_multipliers.Goals as goal

pub loop-m-preserved : goal.loop-m-preserved
loop-m-preserved c =
    let left = into_iter_items c.loop-m.m-iterator in
    let rest = into_iter_items c.next.new.self in
    let m = c.in-Some.m in
    let step = c.in-Some.ensures.steps in
    let so_far = c.loop-m.invariant in
    let to : ℕ → ℕ = λ i. get_or c.args.places.now i i in (
      rw c.in_ok-push.ensures.ok (multipliers_more to c.loop-m.moved (moved_multipliers to c.args.multipliers) left rest m c.place_at.result step.0 so_far.0 c.place_at.ensures),
      omega (arith, step.1, so_far.1, ap length step.0),
    )
