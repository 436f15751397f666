use Rattle.std.proofs.Common.{◌≡◌, ◌∙◌, ℕ, List, [], ◌∷◌, ap, arith, subst}
use Rattle.plan_terms.specs.Terms.{case_of}
use Rattle.separator.{specs.Separators.{cut_answered, cuts_after}, specs.inner.Working.{AreCutsAnswered, ContinueTo}, proofs.Pooling.pools_none, proofs.SomeAnswers.{cut_alone, others_more}, proofs.SomeBoards.{below_after_nothing, cuts_after_nothing, nothing_below, nothing_both, of_is_below, pools_nothing}}
use Rattle.separator.proofs.some_states.ask_until_cut.Goals as goal

pub loop-s-init : goal.loop-s-init
loop-s-init c = (pools_none c.args.board.now, λ m are. are)

pub answer_state-requires-clause-net : goal.answer_state-requires-clause-net
answer_state-requires-clause-net c = ap (λ o. o.0) c.loop-s.invariant.0.origin ∙ c.requires.net

pub answer_state-requires-clause-listed : goal.answer_state-requires-clause-listed
answer_state-requires-clause-listed c = ap (λ o. o.1) c.loop-s.invariant.0.origin ∙ c.requires.listed

pub returns-in_err-answer-clause-pools : goal.returns-in_err-answer-clause-pools
returns-in_err-answer-clause-pools c =
    let p = case_of c.args.instance.now in
    let caps = c.args.caps.now in
    let b = c.loop-s.board in
    let now = c.answer_state.new.board in
    below_after_nothing p caps c.args.to c.args.to c.args.board.now b now (omega arith) c.loop-s.invariant.0
    (of_is_below p caps c.loop-s.s c.args.to b now (omega arith) c.answer_state.ensures.pools)

pub returns-in_err-push-clause-pools : goal.returns-in_err-push-clause-pools
returns-in_err-push-clause-pools c =
    let p = case_of c.args.instance.now in
    let caps = c.args.caps.now in
    let b = c.loop-s.board in
    let now = c.answer_state.new.board in
    below_after_nothing p caps c.args.to c.args.to c.args.board.now b now (omega arith) c.loop-s.invariant.0
    (of_is_below p caps c.loop-s.s c.args.to b now (omega arith) c.answer_state.ensures.pools)

pub returns-then-is_cut-clause-pools : goal.returns-then-is_cut-clause-pools
returns-then-is_cut-clause-pools c =
    let p = case_of c.args.instance.now in
    let caps = c.args.caps.now in
    let b = c.loop-s.board in
    let now = c.answer_state.new.board in
    below_after_nothing p caps c.args.to c.args.to c.args.board.now b now (omega arith) c.loop-s.invariant.0
    (of_is_below p caps c.loop-s.s c.args.to b now (omega arith) c.answer_state.ensures.pools)

pub returns-then-is_cut-clause-cut : goal.returns-then-is_cut-clause-cut
returns-then-is_cut-clause-cut c =
    let p = case_of c.args.instance.now in
    let caps = c.args.caps.now in
    let b = c.loop-s.board in
    let now = c.answer_state.new.board in
    let x = c.in_ok-answer.answer in
    subst (λ (cuts : List (ℕ × List ℕ)). AreCutsAnswered p caps c.args.to now.entries cuts (x ∷ []))
    (cuts_after_nothing c.args.board.now b now c.loop-s.invariant.0 c.answer_state.ensures.pools.pools)
    (cut_alone p caps now.entries c.loop-s.s c.args.to (cuts_after b.entries now.entries) x (omega arith) (ap (λ st. st.0) c.in_ok-answer.ensures.state) c.in_ok-answer.ensures.answer
    (c.is_cut.ensures.one c.if-is_cut.true) c.in_ok-answer.ensures.among)

pub loop-s-preserved : goal.loop-s-preserved
loop-s-preserved c =
    let p = case_of c.args.instance.now in
    let caps = c.args.caps.now in
    let s = c.loop-s.s in
    let b = c.loop-s.board in
    let now = c.answer_state.new.board in
    let x = c.in_ok-answer.answer in
    let none = c.is_cut.ensures.none c.if-is_cut.false in (
      nothing_both c.args.board.now b now c.loop-s.invariant.0 (pools_nothing b now (cut_answered x.answer) none c.in_ok-answer.ensures.among c.answer_state.ensures.pools.pools),
      λ m are. rw c.in_ok-push.ensures.ok
          (others_more p caps now.entries m s c.loop-s.others x (c.loop-s.invariant.1 m are) (ap (λ st. st.0) c.in_ok-answer.ensures.state) none c.in_ok-answer.ensures.answer),
    )

pub returns-clause-pools : goal.returns-clause-pools
returns-clause-pools c = nothing_below (case_of c.args.instance.now) c.args.caps.now c.args.to c.args.board.now c.loop-s.board c.loop-s.invariant.0

pub returns-clause-others : goal.returns-clause-others
returns-clause-others c none =
    let p = case_of c.args.instance.now in
    (c.loop-s.invariant.0, subst (λ k. ContinueTo p c.args.caps.now c.args.from k c.args.others.now c.loop-s.others) (let end : c.loop-s.s ≡ c.args.to = omega arith in end) c.loop-s.invariant.1)
