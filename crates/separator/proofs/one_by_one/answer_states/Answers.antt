use Rattle.std.proofs.Common.{◌+◌, ◌∙◌, ap, arith, length}
use Rattle.plan_terms.specs.Terms.{case_of}
use Rattle.separator.proofs.Answering.{board_answers_more, board_unasked, below_more, below_none, below_weaker}
use Rattle.separator.proofs.one_by_one.answer_states.Goals as goal

pub loop-s-init : goal.loop-s-init
loop-s-init c =
    let p = case_of c.args.instance.now in
    (below_none p c.args.caps.now c.args.board.now, board_unasked p c.args.caps.now c.args.board.now c.new-answers.result c.new-answers.ensures)

pub answer_state-requires-clause-net : goal.answer_state-requires-clause-net
answer_state-requires-clause-net c = ap (λ o. o.0) c.loop-s.invariant.0.pools.origin ∙ c.requires.net

pub answer_state-requires-clause-listed : goal.answer_state-requires-clause-listed
answer_state-requires-clause-listed c = ap (λ o. o.1) c.loop-s.invariant.0.pools.origin ∙ c.requires.listed

pub returns-in_err-answer_state-clause-pools : goal.returns-in_err-answer_state-clause-pools
returns-in_err-answer_state-clause-pools c =
    let p = case_of c.args.instance.now in
    let caps = c.args.caps.now in
    let s = c.loop-s.s in
    below_weaker p caps (s + 1) (length c.args.instance.now.states.now.listed + 1) c.args.board.now c.answer_state.new.board
    (omega arith)
    (below_more p caps s c.args.board.now c.loop-s.board c.answer_state.new.board c.loop-s.invariant.0 c.answer_state.ensures.pools)

pub returns-in_err-push-clause-pools : goal.returns-in_err-push-clause-pools
returns-in_err-push-clause-pools c =
    let p = case_of c.args.instance.now in
    let caps = c.args.caps.now in
    let s = c.loop-s.s in
    below_weaker p caps (s + 1) (length c.args.instance.now.states.now.listed + 1) c.args.board.now c.answer_state.new.board
    (omega arith)
    (below_more p caps s c.args.board.now c.loop-s.board c.answer_state.new.board c.loop-s.invariant.0 c.answer_state.ensures.pools)

pub loop-s-preserved : goal.loop-s-preserved
loop-s-preserved c =
    let p = case_of c.args.instance.now in
    let caps = c.args.caps.now in
    let s = c.loop-s.s in
    let a = c.args.board.now in
    let b = c.loop-s.board in
    let now = c.answer_state.new.board in (
      below_more p caps s a b now c.loop-s.invariant.0 c.answer_state.ensures.pools,
      rw c.in_ok-push.ensures.ok
          (board_answers_more p caps s a b now c.loop-s.answers c.in_ok-answer_state.field-0 c.loop-s.invariant.0.pools c.answer_state.ensures.pools.pools c.loop-s.invariant.1
          (ap (λ st. st.0) c.in_ok-answer_state.ensures.state) c.in_ok-answer_state.ensures.answer c.in_ok-answer_state.ensures.among),
    )
