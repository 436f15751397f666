use Rattle.std.{proofs.Common.{ap, arith, length, map}, specs.Vec.Iter.into_iter_items}
use Rattle.tree_boxes.specs.Finds.{twig_node}
use Rattle.tree_search.{specs.inner.Showing.all_shown, proofs.Opened.{more_shown, nodes_more}}
use Rattle.tree_search.proofs.tree.finished.Goals as goal

pub loop-twig-preserved : goal.loop-twig-preserved
loop-twig-preserved c =
    let twigs = c.args.tree.twigs.items in
    let left = into_iter_items c.loop-twig.twig-iterator in
    let rest = into_iter_items c.next.new.self in
    let t = c.in-Some.twig in
    let step = c.in-Some.ensures.steps in
    let so_far = c.loop-twig.invariant in (
      rw c.in_ok-push.ensures.ok (nodes_more c.loop-twig.nodes (map twig_node twigs) left rest t c.node_of-node.result.0 step.0 so_far.0 c.node_of-node.ensures.node),
      more_shown c.loop-twig.shown c.node_of-node.result.1 (all_shown c.args.cost twigs) left rest t step.0 so_far.1 c.node_of-node.ensures.shown,
      omega (arith, step.1, so_far.2, ap length step.0),
    )
