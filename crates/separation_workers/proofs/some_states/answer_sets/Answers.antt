use Rattle.std.proofs.Common.{◌+◌, length}
use Rattle.plan_terms.specs.Terms.{case_of}
use Rattle.separation_workers.proofs.Working.{none_below, stays}
use Rattle.separation_workers.proofs.some_states.answer_sets.Goals as goal

pub returns-in_err-sets-clause-goes : goal.returns-in_err-sets-clause-goes
returns-in_err-sets-clause-goes g c = stays c.args.round.now c.args.caller.now c.requires.caller

pub returns-in_err-sets-clause-below : goal.returns-in_err-sets-clause-below
returns-in_err-sets-clause-below g c =
    none_below (case_of c.args.round.now.instance) c.args.round.now.caps.now (length c.args.round.now.instance.states.now.listed + 1) c.args.caller.now

pub returns-clause-goes : goal.returns-clause-goes
returns-clause-goes g c = c.answer_all_sets.ensures.goes

pub returns-clause-below : goal.returns-clause-below
returns-clause-below g c = c.answer_all_sets.ensures.below

pub returns-clause-cuts : goal.returns-clause-cuts
returns-clause-cuts g c = c.answer_all_sets.ensures.cuts
