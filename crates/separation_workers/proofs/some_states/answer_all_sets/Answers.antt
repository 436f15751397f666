use Rattle.std.proofs.Common.{◌+◌, arith, length}
use Rattle.plan_terms.specs.Terms.{case_of}
use Rattle.separation_workers.proofs.Working.{adds_more, goes_on, none_so_far, one_state_more, stays, still_in, stopped_at, unanswered}
use Rattle.separation_workers.proofs.some_states.answer_all_sets.Goals as goal

pub loop-s-init : goal.loop-s-init
loop-s-init g c =
    let p = case_of c.args.round.now.instance in
    let caps = c.args.round.now.caps.now in
    record {
      goes = stays c.args.round.now c.args.caller.now c.requires.caller;
      below = none_so_far p caps c.args.caller.now;
      cuts = unanswered p caps 0 c.args.caller.now c.new-answers.result c.new-answers.ensures;
    }

pub answer_set-requires-clause-caller : goal.answer_set-requires-clause-caller
answer_set-requires-clause-caller g c = still_in c.args.round.now c.args.caller.now c.loop-s.caller c.requires.caller c.loop-s.invariant.goes

pub returns-in_err-answer_set-clause-goes : goal.returns-in_err-answer_set-clause-goes
returns-in_err-answer_set-clause-goes g c =
    goes_on c.args.caller.now c.loop-s.caller c.answer_set.new.caller c.loop-s.invariant.goes c.answer_set.ensures.goes

pub returns-in_err-answer_set-clause-below : goal.returns-in_err-answer_set-clause-below
returns-in_err-answer_set-clause-below g c =
    stopped_at (case_of c.args.round.now.instance) c.args.round.now.caps.now c.loop-s.s c.args.caller.now c.loop-s.caller c.answer_set.new.caller c.loop-s.invariant.goes c.answer_set.ensures.goes
    (length c.args.round.now.instance.states.now.listed + 1) (omega arith) c.loop-s.invariant.below c.answer_set.ensures.cuts

pub loop-s-preserved : goal.loop-s-preserved
loop-s-preserved g c =
    let p = case_of c.args.round.now.instance in
    let caps = c.args.round.now.caps.now in
    let s = c.loop-s.s in
    let a = c.args.caller.now in
    let b = c.loop-s.caller in
    let now = c.answer_set.new.caller in
    let so_far = c.loop-s.invariant in
    let step = c.answer_set.ensures in
    record {
      goes = goes_on a b now so_far.goes step.goes;
      below = one_state_more p caps s a b now so_far.goes step.goes so_far.below step.cuts;
      cuts = adds_more p caps s a b now so_far.goes step.goes c.loop-s.answers c.answer_set.new.answers so_far.cuts c.in_ok-answer_set.ensures.adds;
    }
