use Rattle.std.{proofs.Common.{◌≡◌, ◌++◌, get_or, length, map}, specs.Vec.Iter.{into_iter_items, into_iter_len}}
use Rattle.line_maker.specs.Orders.{moved_node}
use Rattle.line_maker.proofs.order.moved_nodes.Given as goal

-- with those that are left, the nodes so far are all
abbrev pub invariant-loop-node : goal.invariant-loop-node
invariant-loop-node l =
    let left = into_iter_items l.node-iterator in
    (l.moved ++ map (moved_node (λ i. get_or l.places i i)) left ≡ map (moved_node (λ i. get_or l.places i i)) l.fn.tree) × (into_iter_len l.node-iterator ≡ length left)
