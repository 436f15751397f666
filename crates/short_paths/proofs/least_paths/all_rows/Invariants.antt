use Rattle.std.proofs.Common.{◌≡◌, length}
use Rattle.short_paths.{specs.inner.ForwardStars.HasArc, specs.declared.dijkstra.TheConstants.FAR, proofs.Gathering.RowsBelow}
use Rattle.short_paths.proofs.least_paths.all_rows.Given as goal

abbrev pub invariant-loop-target : goal.invariant-loop-target
invariant-loop-target l = (length l.search.found.items ≡ l.nodes) × RowsBelow (HasArc l.star.arcs) l.lengths FAR l.nodes l.target l.rows
