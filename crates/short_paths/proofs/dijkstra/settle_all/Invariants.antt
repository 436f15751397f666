use Rattle.std.proofs.Common.{◌^◌, ◌-◌, count_by, not}
use Rattle.short_paths.{specs.inner.ForwardStars.HasArc, proofs.Settling.IsSearch}
use Rattle.short_paths.proofs.dijkstra.settle_all.Given as goal

abbrev pub invariant-loop-at : goal.invariant-loop-at
invariant-loop-at l = IsSearch (HasArc l.star.arcs) l.lengths (2 ^ 128 - 1) l.fn.from.0 l.found l.settled

-- how many nodes are not settled
abbrev pub decreases-loop-at : goal.decreases-loop-at
decreases-loop-at l = count_by not l.settled
