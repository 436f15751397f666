use Rattle.std.proofs.Common.{◌≡◌, ap, arith, subst, sym}
use Rattle.plan_terms.specs.Terms.{case_of}
use Rattle.board_desk.specs.Turns.{caller_seen}
use Rattle.separator.specs.inner.Working.{ContinueTo}
use Rattle.separation_workers.proofs.Working.{goes_on, nothing_below, one_state_more, pooled_none, put_goes_on, put_more, stays, still_in, stopped_at, unanswered}
use Rattle.separation_workers.proofs.some_states.answer_places.Goals as goal

pub loop-s-init : goal.loop-s-init
loop-s-init g c =
    let p = case_of c.args.round.now.instance in
    let caps = c.args.round.now.caps.now in
    let a = c.args.caller.now in
    record {
      goes = stays c.args.round.now a c.requires.caller;
      below = nothing_below p caps c.args.from a a (sym (pooled_none a));
      found = c.requires.found;
      cuts = unanswered p caps c.args.from a c.new-cuts.result c.new-cuts.ensures;
      others = λ none m are. are;
    }

pub answer_at-requires-clause-caller : goal.answer_at-requires-clause-caller
answer_at-requires-clause-caller g c = still_in c.args.round.now c.args.caller.now c.loop-s.caller c.requires.caller c.loop-s.invariant.goes

pub returns-in_err-answer-clause-goes : goal.returns-in_err-answer-clause-goes
returns-in_err-answer-clause-goes g c =
    goes_on c.args.caller.now c.loop-s.caller c.answer_at.new.caller c.loop-s.invariant.goes c.answer_at.ensures.goes

pub returns-in_err-answer-clause-below : goal.returns-in_err-answer-clause-below
returns-in_err-answer-clause-below g c =
    stopped_at (case_of c.args.round.now.instance) c.args.round.now.caps.now c.loop-s.s c.args.caller.now c.loop-s.caller c.answer_at.new.caller c.loop-s.invariant.goes c.answer_at.ensures.goes
    c.args.to (omega arith) c.loop-s.invariant.below c.answer_at.ensures.cuts

pub returns-in_err-put_answer-clause-goes : goal.returns-in_err-put_answer-clause-goes
returns-in_err-put_answer-clause-goes g c =
    goes_on c.args.caller.now c.loop-s.caller c.answer_at.new.caller c.loop-s.invariant.goes c.answer_at.ensures.goes

pub returns-in_err-put_answer-clause-below : goal.returns-in_err-put_answer-clause-below
returns-in_err-put_answer-clause-below g c =
    stopped_at (case_of c.args.round.now.instance) c.args.round.now.caps.now c.loop-s.s c.args.caller.now c.loop-s.caller c.answer_at.new.caller c.loop-s.invariant.goes c.answer_at.ensures.goes
    c.args.to (omega arith) c.loop-s.invariant.below c.answer_at.ensures.cuts

pub loop-s-preserved : goal.loop-s-preserved
loop-s-preserved g c =
    let p = case_of c.args.round.now.instance in
    let caps = c.args.round.now.caps.now in
    let s = c.loop-s.s in
    let a = c.args.caller.now in
    let b = c.loop-s.caller in
    let now = c.answer_at.new.caller in
    let so_far = c.loop-s.invariant in
    let step = c.answer_at.ensures in
    let x = c.in_ok-answer.answer in
    let state = ap (λ st. st.0) c.in_ok-answer.ensures.state in
    record {
      goes = goes_on a b now so_far.goes step.goes;
      below = one_state_more p caps s a b now so_far.goes step.goes so_far.below step.cuts;
      found = c.answer_at.ensures.left;
      cuts = put_more p caps s a b now so_far.goes step.goes x c.loop-s.cuts c.put_answer.new.cuts c.loop-s.others c.put_answer.new.others c.in_ok-put_answer.ensures
          state c.in_ok-answer.ensures.answer c.in_ok-answer.ensures.among so_far.cuts;
      others = put_goes_on p caps (caller_seen now).history c.args.from s c.args.others.now x c.loop-s.cuts c.put_answer.new.cuts c.loop-s.others c.put_answer.new.others c.in_ok-put_answer.ensures
          state c.in_ok-answer.ensures.answer so_far.others;
    }

pub returns-clause-others : goal.returns-clause-others
returns-clause-others g c none =
    let p = case_of c.args.round.now.instance in
    subst (λ k. ContinueTo p c.args.round.now.caps.now c.args.from k c.args.others.now c.loop-s.others) (let end : c.loop-s.s ≡ c.args.to = omega arith in end) (c.loop-s.invariant.others none)
