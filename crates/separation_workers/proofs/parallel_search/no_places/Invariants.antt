use Rattle.separation_workers.specs.inner.Rounds.{AreFound}
use Rattle.separation_workers.proofs.parallel_search.no_places.Given as goal

abbrev pub invariant-loop : goal.invariant-loop
invariant-loop l = AreFound l.round l.places
