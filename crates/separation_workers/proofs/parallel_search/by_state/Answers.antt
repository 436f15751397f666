use Rattle.std.proofs.Common.{subst, sym}
use Rattle.separation_workers.specs.inner.Rounds.{AreFound}
use Rattle.separation_workers.proofs.parallel_search.by_state.Goals as goal

pub place_all-requires-clause-before : goal.place_all-requires-clause-before
place_all-requires-clause-before c = subst (AreFound c.args.round.now) (sym c.items_mut.ensures.value) c.in_ok-places.ensures
