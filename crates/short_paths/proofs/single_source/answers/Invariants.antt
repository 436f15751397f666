use Rattle.std.proofs.Common.{◌≡◌, map, take}
use Rattle.short_paths.{specs.declared.dijkstra.TheConstants.FAR, specs.inner.Tables.answer_of}
use Rattle.short_paths.proofs.single_source.answers.Given as goal

abbrev pub invariant-loop-distance : goal.invariant-loop-distance
invariant-loop-distance l = l.row ≡ map (answer_of FAR) (take l.distance-index l.found)
