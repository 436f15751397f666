use Rattle.std.proofs.Common.{◌≡◌, length}
use Rattle.short_paths.{specs.inner.ForwardStars.HasArc, specs.inner.Pairs.ArePairs}
use Rattle.short_paths.proofs.pairs.pairs_of.Given as goal

abbrev pub invariant-loop-high : goal.invariant-loop-high
invariant-loop-high l = (length l.search.found.items ≡ l.nodes) × ArePairs (HasArc l.star.arcs) l.lengths l.high l.pairs
