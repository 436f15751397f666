use Rattle.std.proofs.Common.{◌≡◌, ◌++◌, map, take}
use Rattle.short_paths.specs.inner.Pairs.{narrowed}
use Rattle.short_paths.proofs.pairs.add_narrowed.Given as goal

abbrev pub invariant-loop-distance : goal.invariant-loop-distance
invariant-loop-distance l = l.pairs ≡ l.fn.pairs ++ map narrowed (take l.distance-index l.found)
