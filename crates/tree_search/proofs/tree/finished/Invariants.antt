use Rattle.std.{proofs.Common.{◌≡◌, ◌++◌, length, map}, specs.Vec.Iter.{into_iter_items, into_iter_len}}
use Rattle.tree_boxes.specs.Finds.{twig_node}
use Rattle.tree_search.specs.inner.Showing.{all_shown, shown_more}
use Rattle.tree_search.proofs.tree.finished.Given as goal

-- with those of the places that are left, the nodes so far are all, and show what all do
abbrev pub invariant-loop-twig : goal.invariant-loop-twig
invariant-loop-twig l =
    let left = into_iter_items l.twig-iterator in
    (l.nodes ++ map twig_node left ≡ map twig_node l.fn.tree.twigs.items)
    × (shown_more l.shown left ≡ all_shown l.cost l.fn.tree.twigs.items)
    × (into_iter_len l.twig-iterator ≡ length left)
