use Rattle.std.proofs.Common.{◌+◌, ◌∙◌, IfSome, ap, arith, length, subst, ◌∷◌, []}
use Rattle.net_core.proofs.Library.{IfOk-weaker}
use Rattle.plan_terms.specs.Terms.{case_of}
use Rattle.separator.{specs.Separators.{cuts_after, cuts_answered}, specs.declared.answers.StateAnswer.StateAnswer, specs.inner.Working.{AreCutsAnswered, AreOtherAnswers}, proofs.Pooling.pools_none, proofs.SomeAnswers.others_none, proofs.SomeBoards.{below_after_nothing, among_after_nothing, only_is_some}}
use Rattle.separator.proofs.some_states.ask_ring.Goals as goal

pub returns-in-Some-clause-answers : goal.returns-in-Some-clause-answers
returns-in-Some-clause-answers c =
    let p = case_of c.args.instance.now in
    let caps = c.args.caps.now in
    let a = c.args.board.now in
    let now = c.ask_until_cut.new.board in
    let n = c.count-count.result in
    let found = subst (λ o. IfSome o (λ (x : StateAnswer). AreCutsAnswered p caps n now.entries (cuts_after a.entries now.entries) (x ∷ []))) c.in-Some.is c.in_ok-cut.ensures.cut in
    IfOk-weaker c.only_cut.result _ _
    (λ answers is. (only_is_some p caps n a a now c.in-Some.cut answers (omega (arith, c.count-count.ensures)) (pools_none a) c.ask_until_cut.ensures.pools.pools found is).0)
    c.only_cut.ensures

pub returns-in-Some-clause-among : goal.returns-in-Some-clause-among
returns-in-Some-clause-among c =
    let p = case_of c.args.instance.now in
    let caps = c.args.caps.now in
    let a = c.args.board.now in
    let now = c.ask_until_cut.new.board in
    let n = c.count-count.result in
    let found = subst (λ o. IfSome o (λ (x : StateAnswer). AreCutsAnswered p caps n now.entries (cuts_after a.entries now.entries) (x ∷ []))) c.in-Some.is c.in_ok-cut.ensures.cut in
    IfOk-weaker c.only_cut.result _ _
    (λ answers is. (only_is_some p caps n a a now c.in-Some.cut answers (omega (arith, c.count-count.ensures)) (pools_none a) c.ask_until_cut.ensures.pools.pools found is).1)
    c.only_cut.ensures

pub ask_before-requires-clause-net : goal.ask_before-requires-clause-net
ask_before-requires-clause-net c = ap (λ o. o.0) c.ask_until_cut.ensures.pools.pools.origin ∙ c.requires.net

pub ask_before-requires-clause-listed : goal.ask_before-requires-clause-listed
ask_before-requires-clause-listed c = ap (λ o. o.1) c.ask_until_cut.ensures.pools.pools.origin ∙ c.requires.listed

pub ask_before-requires-clause-later : goal.ask_before-requires-clause-later
ask_before-requires-clause-later c =
    let p = case_of c.args.instance.now in
    subst (λ n. AreOtherAnswers p c.args.caps.now c.min-start.result n c.ask_until_cut.new.others) c.count-count.ensures
    ((c.in_ok-cut.ensures.others c.in-None.is).1 c.min-start.result (others_none p c.args.caps.now c.min-start.result c.new-later.result c.new-later.ensures))

pub returns-in-None-clause-pools : goal.returns-in-None-clause-pools
returns-in-None-clause-pools c =
    let n = length c.args.instance.now.states.now.listed + 1 in
    below_after_nothing (case_of c.args.instance.now) c.args.caps.now n n c.args.board.now c.ask_until_cut.new.board c.ask_before.new.board (omega arith) (c.in_ok-cut.ensures.others c.in-None.is).0 c.ask_before.ensures.pools

pub returns-in-None-clause-among : goal.returns-in-None-clause-among
returns-in-None-clause-among c =
    let none = (c.in_ok-cut.ensures.others c.in-None.is).0 in
    IfOk-weaker c.ask_before.result _ _
    (λ answers among. among_after_nothing c.args.board.now c.ask_until_cut.new.board c.ask_before.new.board (cuts_answered answers) none c.ask_before.ensures.pools.pools among)
    c.ask_before.ensures.among
