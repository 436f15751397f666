use Rattle.std.proofs.Common.{◌+◌, ◌∙◌, ap, arith, length}
use Rattle.plan_terms.specs.Terms.{case_of}
use Rattle.separator.{proofs.Answering.{below_more, below_none, below_weaker}, proofs.SomeBoards.{board_adds, board_unanswered}}
use Rattle.separator.proofs.some_states.answer_sets.Goals as goal

pub returns-in_err-sets-clause-pools : goal.returns-in_err-sets-clause-pools
returns-in_err-sets-clause-pools c =
    let p = case_of c.args.instance.now in
    let b = c.args.board.now in
    below_weaker p c.args.caps.now 0 (length c.args.instance.now.states.now.listed + 1) b b (omega arith) (below_none p c.args.caps.now b)

pub loop-s-init : goal.loop-s-init
loop-s-init c =
    let p = case_of c.args.instance.now in
    (below_none p c.args.caps.now c.args.board.now, board_unanswered p c.args.caps.now 0 c.args.board.now c.new-answers.result c.new-answers.ensures)

pub answer_set-requires-clause-net : goal.answer_set-requires-clause-net
answer_set-requires-clause-net c = ap (λ o. o.0) c.loop-s.invariant.0.pools.origin ∙ c.requires.net

pub answer_set-requires-clause-listed : goal.answer_set-requires-clause-listed
answer_set-requires-clause-listed c = ap (λ o. o.1) c.loop-s.invariant.0.pools.origin ∙ c.requires.listed

pub returns-in_err-answer_set-clause-pools : goal.returns-in_err-answer_set-clause-pools
returns-in_err-answer_set-clause-pools c =
    let p = case_of c.args.instance.now in
    let s = c.loop-s.s in
    below_weaker p c.args.caps.now (s + 1) (length c.args.instance.now.states.now.listed + 1) c.args.board.now c.answer_set.new.board
    (omega arith)
    (below_more p c.args.caps.now s c.args.board.now c.loop-s.board c.answer_set.new.board c.loop-s.invariant.0 c.answer_set.ensures.pools)

pub loop-s-preserved : goal.loop-s-preserved
loop-s-preserved c =
    let p = case_of c.args.instance.now in
    let caps = c.args.caps.now in
    let s = c.loop-s.s in
    let a = c.args.board.now in
    let b = c.loop-s.board in
    let now = c.answer_set.new.board in (
      below_more p caps s a b now c.loop-s.invariant.0 c.answer_set.ensures.pools,
      board_adds p caps s a b now c.loop-s.answers c.answer_set.new.answers c.loop-s.invariant.0.pools c.answer_set.ensures.pools.pools c.loop-s.invariant.1 c.in_ok-answer_set.ensures.adds,
    )
