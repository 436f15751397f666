use Rattle.short_paths.proofs.Relaxing.{Relaxed}
use Rattle.short_paths.proofs.dijkstra.relax.Given as goal

abbrev pub invariant-loop-arc : goal.invariant-loop-arc
invariant-loop-arc l = Relaxed l.arc-items l.lengths l.far l.arc-index l.fn.found l.found
