use Rattle.std.proofs.Common.{◌+◌, length, subst, sym}
use Rattle.plan_terms.specs.Terms.{case_of}
use Rattle.separation_workers.{specs.inner.Rounds.AreFound, proofs.Working.{none_below, stays}}
use Rattle.separation_workers.proofs.workers.answer_round.Goals as goal

pub answer_states-requires-clause-found : goal.answer_states-requires-clause-found
answer_states-requires-clause-found g c = subst (AreFound c.args.round.now) (sym c.items_mut.ensures.value) c.in_ok-places.ensures

pub returns-in_err-places-clause-goes : goal.returns-in_err-places-clause-goes
returns-in_err-places-clause-goes g c = stays c.args.round.now c.args.caller.now c.requires.caller

pub returns-in_err-places-clause-cuts : goal.returns-in_err-places-clause-cuts
returns-in_err-places-clause-cuts g c =
    none_below (case_of c.args.round.now.instance) c.args.round.now.caps.now (length c.args.round.now.instance.states.now.listed + 1) c.args.caller.now

pub returns-clause-goes : goal.returns-clause-goes
returns-clause-goes g c = c.answer_states.ensures.goes

pub returns-clause-cuts : goal.returns-clause-cuts
returns-clause-cuts g c = c.answer_states.ensures.cuts

pub returns-clause-answers : goal.returns-clause-answers
returns-clause-answers g c = c.answer_states.ensures.answers
