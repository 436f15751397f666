use Rattle.std.proofs.Common.{◌≡◌, take}
use Rattle.short_paths.proofs.dijkstra.widened.Given as goal

abbrev pub invariant-loop-length : goal.invariant-loop-length
invariant-loop-length l = l.wide ≡ take l.length-index l.lengths
