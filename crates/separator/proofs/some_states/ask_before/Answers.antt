use Rattle.std.proofs.Common.{◌+◌, IfSome, length, subst, ◌∷◌, []}
use Rattle.net_core.proofs.Library.{IfOk-weaker}
use Rattle.plan_terms.specs.Terms.{case_of}
use Rattle.separator.{specs.Separators.{cuts_after, cuts_answered}, specs.declared.answers.StateAnswer.StateAnswer, specs.inner.Working.AreCutsAnswered, proofs.Answering.below_weaker, proofs.Pooling.pools_none, proofs.SomeAnswers.{others_none, ring_answers}, proofs.SomeBoards.{none_is_among, only_is_some}}
use Rattle.separator.proofs.some_states.ask_before.Goals as goal

pub returns-in_err-cut-clause-pools : goal.returns-in_err-cut-clause-pools
returns-in_err-cut-clause-pools c =
    below_weaker (case_of c.args.instance.now) c.args.caps.now c.args.start (length c.args.instance.now.states.now.listed + 1) c.args.board.now c.ask_until_cut.new.board c.requires.start c.ask_until_cut.ensures.pools

pub returns-in-Some-clause-pools : goal.returns-in-Some-clause-pools
returns-in-Some-clause-pools c =
    below_weaker (case_of c.args.instance.now) c.args.caps.now c.args.start (length c.args.instance.now.states.now.listed + 1) c.args.board.now c.ask_until_cut.new.board c.requires.start c.ask_until_cut.ensures.pools

pub returns-in-Some-clause-answers : goal.returns-in-Some-clause-answers
returns-in-Some-clause-answers c =
    let p = case_of c.args.instance.now in
    let caps = c.args.caps.now in
    let a = c.args.board.now in
    let now = c.ask_until_cut.new.board in
    let found = subst (λ o. IfSome o (λ (x : StateAnswer). AreCutsAnswered p caps c.args.start now.entries (cuts_after a.entries now.entries) (x ∷ []))) c.in-Some.is c.in_ok-cut.ensures.cut in
    IfOk-weaker c.only_cut.result _ _
    (λ answers is. (only_is_some p caps c.args.start a a now c.in-Some.cut answers c.requires.start (pools_none a) c.ask_until_cut.ensures.pools.pools found is).0)
    c.only_cut.ensures

pub returns-in-Some-clause-among : goal.returns-in-Some-clause-among
returns-in-Some-clause-among c =
    let p = case_of c.args.instance.now in
    let caps = c.args.caps.now in
    let a = c.args.board.now in
    let now = c.ask_until_cut.new.board in
    let found = subst (λ o. IfSome o (λ (x : StateAnswer). AreCutsAnswered p caps c.args.start now.entries (cuts_after a.entries now.entries) (x ∷ []))) c.in-Some.is c.in_ok-cut.ensures.cut in
    IfOk-weaker c.only_cut.result _ _
    (λ answers is. (only_is_some p caps c.args.start a a now c.in-Some.cut answers c.requires.start (pools_none a) c.ask_until_cut.ensures.pools.pools found is).1)
    c.only_cut.ensures

pub returns-in-None-clause-pools : goal.returns-in-None-clause-pools
returns-in-None-clause-pools c =
    below_weaker (case_of c.args.instance.now) c.args.caps.now c.args.start (length c.args.instance.now.states.now.listed + 1) c.args.board.now c.ask_until_cut.new.board c.requires.start c.ask_until_cut.ensures.pools

pub returns-in-None-clause-answers : goal.returns-in-None-clause-answers
returns-in-None-clause-answers c =
    let p = case_of c.args.instance.now in
    let caps = c.args.caps.now in
    let now = c.ask_until_cut.new.board in
    let told = c.in_ok-cut.ensures.others c.in-None.is in
    IfOk-weaker c.answers_of_both.result _ _
    (λ all is. ring_answers p caps now.entries c.args.start c.ask_until_cut.new.others c.args.later all (told.1 0 (others_none p caps 0 c.new-answers.result c.new-answers.ensures)) c.requires.later is)
    c.answers_of_both.ensures

pub returns-in-None-clause-among : goal.returns-in-None-clause-among
returns-in-None-clause-among c =
    let told = c.in_ok-cut.ensures.others c.in-None.is in
    IfOk-weaker c.answers_of_both.result _ _
    (λ all is. none_is_among (case_of c.args.instance.now) c.args.caps.now c.args.board.now c.ask_until_cut.new.board (cuts_answered all) told.0)
    c.answers_of_both.ensures
