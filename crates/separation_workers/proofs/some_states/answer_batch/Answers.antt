use Rattle.std.proofs.Common.{subst, sym}
use Rattle.plan_terms.specs.Terms.{case_of}
use Rattle.separation_workers.{specs.inner.Rounds.AreFound, proofs.Working.{nothing_below, pooled_none, stays}}
use Rattle.separation_workers.proofs.some_states.answer_batch.Goals as goal

pub answer_places-requires-clause-found : goal.answer_places-requires-clause-found
answer_places-requires-clause-found g c = subst (AreFound c.args.round.now) (sym c.items_mut.ensures.value) c.in_ok-places.ensures

pub returns-in_err-places-clause-goes : goal.returns-in_err-places-clause-goes
returns-in_err-places-clause-goes g c = stays c.args.round.now c.args.caller.now c.requires.caller

pub returns-in_err-places-clause-below : goal.returns-in_err-places-clause-below
returns-in_err-places-clause-below g c =
    let a = c.args.caller.now in
    nothing_below (case_of c.args.round.now.instance) c.args.round.now.caps.now c.args.to a a (sym (pooled_none a))
