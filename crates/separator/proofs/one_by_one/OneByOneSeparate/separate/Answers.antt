use Rattle.std.proofs.Common.{◌≢◌, All, AllPairs, Contains, subst, sym}
use Rattle.net_core.proofs.Library.{IfOk-weaker}
use Rattle.plan_terms.specs.Terms.{case_of}
use Rattle.separator.{specs.Separators.{SeparatesAt, cuts_answered, cuts_after}, proofs.Answering.{own_cuts, same_frame, sees_more}}
use Rattle.separator.proofs.one_by_one.OneByOneSeparate.separate.Goals as goal

pub returns-clause-frame : goal.returns-clause-frame
returns-clause-frame c = same_frame c.args.self.now.began.value c.args.self.now.board c.answer_states.new.board c.answer_states.ensures.pools.pools.origin

pub returns-clause-more : goal.returns-clause-more
returns-clause-more c =
    let self = c.args.self.now in
    let now = c.answer_states.new.board in
    sees_more self.began.value self.board now (cuts_after self.board.entries now.entries) self.began_before c.answer_states.ensures.pools.pools

pub returns-clause-separating : goal.returns-clause-separating
returns-clause-separating c =
    let self = c.args.self.now in
    let now = c.answer_states.new.board in
    let same = own_cuts self.began.value self.board now (cuts_after self.board.entries now.entries) self.began_before c.answer_states.ensures.pools.pools in
    ∣ subst (All (SeparatesAt (case_of c.args.instance.now) c.args.caps.now)) (sym same) c.answer_states.ensures.pools.cuts_are.separating ∣₁

pub returns-clause-different : goal.returns-clause-different
returns-clause-different c =
    let self = c.args.self.now in
    let now = c.answer_states.new.board in
    let same = own_cuts self.began.value self.board now (cuts_after self.board.entries now.entries) self.began_before c.answer_states.ensures.pools.pools in
    subst (AllPairs (λ x y. x.0 ≢ y.0)) (sym same) c.answer_states.ensures.pools.cuts_are.different

pub returns-clause-answers : goal.returns-clause-answers
returns-clause-answers c =
    IfOk-weaker c.answer_states.result _ _
    (λ answers are. ∣ record { count = are.count; each = are.each } ∣₁)
    c.answer_states.ensures.answers

pub returns-clause-answered : goal.returns-clause-answered
returns-clause-answered c =
    let self = c.args.self.now in
    let now = c.answer_states.new.board in
    let same = own_cuts self.began.value self.board now (cuts_after self.board.entries now.entries) self.began_before c.answer_states.ensures.pools.pools in
    IfOk-weaker c.answer_states.result _ _
    (λ answers are. subst (All (Contains (cuts_answered answers))) (sym same) are.among)
    c.answer_states.ensures.answers
