use Rattle.separation_workers.specs.inner.Rounds.{AreFound}
use Rattle.separation_workers.proofs.parallel_search.place_all.Given as goal

abbrev pub invariant-loop-one : goal.invariant-loop-one
invariant-loop-one l = AreFound l.round l.places
