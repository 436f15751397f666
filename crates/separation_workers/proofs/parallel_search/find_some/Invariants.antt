use Rattle.std.proofs.Common.{All}
use Rattle.separation_workers.specs.inner.Rounds.{IsStateFound}
use Rattle.separation_workers.proofs.parallel_search.find_some.Given as goal

abbrev pub invariant-loop : goal.invariant-loop
invariant-loop l = All (IsStateFound l.round) l.found.items
