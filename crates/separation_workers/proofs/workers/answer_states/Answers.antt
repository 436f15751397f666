use Rattle.std.proofs.Common.{ap, arith, length, ◌+◌}
use Rattle.plan_terms.specs.Terms.{case_of}
use Rattle.separation_workers.proofs.Working.{goes_on, one_answer_more, one_state_more, still_in, stopped_at}
use Rattle.separation_workers.proofs.workers.answer_states.Goals as goal

pub returns-in_err-answer-clause-goes : goal.returns-in_err-answer-clause-goes
returns-in_err-answer-clause-goes g c =
    goes_on c.args.caller.now c.loop-s.caller c.answer_at.new.caller c.loop-s.invariant.goes c.answer_at.ensures.goes

pub returns-in_err-answer-clause-cuts : goal.returns-in_err-answer-clause-cuts
returns-in_err-answer-clause-cuts g c =
    stopped_at (case_of c.args.round.now.instance) c.args.round.now.caps.now c.loop-s.s c.args.caller.now c.loop-s.caller c.answer_at.new.caller c.loop-s.invariant.goes c.answer_at.ensures.goes
    (length c.args.round.now.instance.states.now.listed + 1) (omega arith) c.loop-s.invariant.cuts c.answer_at.ensures.cuts

pub returns-in_err-push-clause-goes : goal.returns-in_err-push-clause-goes
returns-in_err-push-clause-goes g c =
    goes_on c.args.caller.now c.loop-s.caller c.answer_at.new.caller c.loop-s.invariant.goes c.answer_at.ensures.goes

pub returns-in_err-push-clause-cuts : goal.returns-in_err-push-clause-cuts
returns-in_err-push-clause-cuts g c =
    stopped_at (case_of c.args.round.now.instance) c.args.round.now.caps.now c.loop-s.s c.args.caller.now c.loop-s.caller c.answer_at.new.caller c.loop-s.invariant.goes c.answer_at.ensures.goes
    (length c.args.round.now.instance.states.now.listed + 1) (omega arith) c.loop-s.invariant.cuts c.answer_at.ensures.cuts

pub loop-s-preserved : goal.loop-s-preserved
loop-s-preserved g c =
    let p = case_of c.args.round.now.instance in
    let caps = c.args.round.now.caps.now in
    let s = c.loop-s.s in
    let a = c.args.caller.now in
    let b = c.loop-s.caller in
    let now = c.answer_at.new.caller in
    let so_far = c.loop-s.invariant in
    let step = c.answer_at.ensures in
    record {
      goes = goes_on a b now so_far.goes step.goes;
      cuts = one_state_more p caps s a b now so_far.goes step.goes so_far.cuts step.cuts;
      found = c.answer_at.ensures.left;
      answers = rw c.in_ok-push.ensures.ok
          (one_answer_more p caps s a b now so_far.goes step.goes c.loop-s.answers c.in_ok-answer.answer so_far.answers
          (ap (λ st. st.0) c.in_ok-answer.ensures.state) c.in_ok-answer.ensures.answer c.in_ok-answer.ensures.among);
    }

pub answer_at-requires-clause-caller : goal.answer_at-requires-clause-caller
answer_at-requires-clause-caller g c = still_in c.args.round.now c.args.caller.now c.loop-s.caller c.requires.caller c.loop-s.invariant.goes
