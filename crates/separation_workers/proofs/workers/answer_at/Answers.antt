use Rattle.plan_terms.specs.Terms.{case_of}
use Rattle.separation_workers.proofs.Working.{none_of_state, stays}
use Rattle.separation_workers.proofs.workers.answer_at.Goals as goal

pub returns-in_err-found-clause-goes : goal.returns-in_err-found-clause-goes
returns-in_err-found-clause-goes g c = stays c.args.round.now c.args.caller.now c.requires.caller

pub returns-in_err-found-clause-cuts : goal.returns-in_err-found-clause-cuts
returns-in_err-found-clause-cuts g c = none_of_state (case_of c.args.round.now.instance) c.args.round.now.caps.now c.args.state.0 c.args.caller.now
