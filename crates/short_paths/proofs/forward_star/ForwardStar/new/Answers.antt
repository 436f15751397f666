use Rattle.plan_terms.proofs.Lemmas.{joins_below, joins_inside}
use Rattle.short_paths.proofs.ForwardStars.{arcs_moved, arcs_within, arcs_below}
use Rattle.short_paths.proofs.forward_star.ForwardStar.new.Goals as goal

pub invariant_of-result-clause-sorted : goal.invariant_of-result-clause-sorted
invariant_of-result-clause-sorted c = rw c.items.ensures at c.in_ok-starts.ensures.starts

pub invariant_of-result-clause-within : goal.invariant_of-result-clause-within
invariant_of-result-clause-within c =
    rw c.in_ok-starts.ensures.count (arcs_within _ _ _ (arcs_moved _ _ _ c.sorted-arcs.ensures.same c.in_ok-unsorted.ensures) (λ e x y j. rw (c.len.ensures, c.nodes.ensures) (joins_inside _ e x y c.args.graph.now.net.now.checked j)))

pub returns-clause-links : goal.returns-clause-links
returns-clause-links c =
    arcs_below _ _ _ (arcs_moved _ _ _ c.sorted-arcs.ensures.same c.in_ok-unsorted.ensures) (λ e x y j. joins_below _ e x y j)

pub returns-clause-arcs : goal.returns-clause-arcs
returns-clause-arcs c = arcs_moved _ _ _ c.sorted-arcs.ensures.same c.in_ok-unsorted.ensures
