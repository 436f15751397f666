use Rattle.std.{proofs.Common.{ℕ, ap, arith, get_or, length, map}, specs.Vec.Iter.into_iter_items}
use Rattle.line_maker.{specs.Orders.moved_node, proofs.Moves.moved_more}
use Rattle.line_maker.proofs.order.moved_nodes.Goals as goal

pub loop-node-preserved : goal.loop-node-preserved
loop-node-preserved c =
    let left = into_iter_items c.loop-node.node-iterator in
    let rest = into_iter_items c.next.new.self in
    let node = c.in-Some.node in
    let step = c.in-Some.ensures.steps in
    let so_far = c.loop-node.invariant in
    let to : ℕ → ℕ = λ i. get_or c.args.places.now i i in (
      rw c.in_ok-push.ensures.ok (moved_more to c.loop-node.moved (map (moved_node to) c.args.tree) left rest node c.in_ok-next.next step.0 so_far.0 c.in_ok-next.ensures),
      omega (arith, step.1, so_far.1, ap length step.0),
    )
