use Rattle.std.proofs.Common.{◌≡◌, ◌+◌, ◌<◌, [], ap, arith, length}
use Rattle.net_core.proofs.Library.{IfOk-weaker, nil_from_length}
use Rattle.plan_terms.specs.Terms.{case_of}
use Rattle.board_desk.specs.Turns.{caller_seen}
use Rattle.separator.{specs.Separators.cuts_answered, proofs.Lemmas.{cuts_weaker, answered_wider, cuts_are_some, others_none, ring_answers}}
use Rattle.separation_workers.proofs.Working.{among_nothing, cuts_pooled, pooled_nothing}
use Rattle.separation_workers.proofs.some_states.ask_before.Goals as goal

pub returns-in_err-cuts-clause-below : goal.returns-in_err-cuts-clause-below
returns-in_err-cuts-clause-below g c =
    cuts_weaker (case_of c.args.round.now.instance) c.args.round.now.caps.now c.args.start (length c.args.round.now.instance.states.now.listed + 1)
    (cuts_pooled c.args.caller.now c.ask_until_cuts.new.caller) c.requires.start c.ask_until_cuts.ensures.below

pub returns-then-len-eq0-clause-below : goal.returns-then-len-eq0-clause-below
returns-then-len-eq0-clause-below g c =
    cuts_weaker (case_of c.args.round.now.instance) c.args.round.now.caps.now c.args.start (length c.args.round.now.instance.states.now.listed + 1)
    (cuts_pooled c.args.caller.now c.ask_until_cuts.new.caller) c.requires.start c.ask_until_cuts.ensures.below

pub returns-then-len-eq0-clause-answers : goal.returns-then-len-eq0-clause-answers
returns-then-len-eq0-clause-answers g c =
    let p = case_of c.args.round.now.instance in
    let caps = c.args.round.now.caps.now in
    let empty : c.in_ok-cuts.cuts ≡ [] = nil_from_length c.in_ok-cuts.cuts (omega (arith, c.if-len-eq0.true, c.len.ensures)) in
    IfOk-weaker c.answers_of_both.result _ _
    (λ all is. ring_answers p caps (caller_seen c.ask_until_cuts.new.caller).history c.args.start c.ask_until_cuts.new.others c.args.later all
    (c.in_ok-cuts.ensures.others empty 0 (others_none p caps 0 c.new-answers.result c.new-answers.ensures)) c.requires.later is)
    c.answers_of_both.ensures

pub returns-then-len-eq0-clause-among : goal.returns-then-len-eq0-clause-among
returns-then-len-eq0-clause-among g c =
    let a = c.args.caller.now in
    let now = c.ask_until_cuts.new.caller in
    let empty : c.in_ok-cuts.cuts ≡ [] = nil_from_length c.in_ok-cuts.cuts (omega (arith, c.if-len-eq0.true, c.len.ensures)) in
    IfOk-weaker c.answers_of_both.result _ _
    (λ all is. among_nothing a now (cuts_answered all) (pooled_nothing a now (cuts_answered c.in_ok-cuts.cuts) (ap cuts_answered empty) c.in_ok-cuts.ensures.cuts.among))
    c.answers_of_both.ensures

pub returns-clause-below : goal.returns-clause-below
returns-clause-below g c =
    cuts_weaker (case_of c.args.round.now.instance) c.args.round.now.caps.now c.args.start (length c.args.round.now.instance.states.now.listed + 1)
    (cuts_pooled c.args.caller.now c.ask_until_cuts.new.caller) c.requires.start c.ask_until_cuts.ensures.below

pub returns-clause-answers : goal.returns-clause-answers
returns-clause-answers g c =
    let p = case_of c.args.round.now.instance in
    let caps = c.args.round.now.caps.now in
    let h = (caller_seen c.ask_until_cuts.new.caller).history in
    let pooled = cuts_pooled c.args.caller.now c.ask_until_cuts.new.caller in
    let some : 0 < length c.in_ok-cuts.cuts = omega (arith, c.if-len-eq0.false, c.len.ensures) in
    cuts_are_some p caps h pooled c.in_ok-cuts.cuts (answered_wider p caps c.args.start (length c.args.round.now.instance.states.now.listed + 1) h pooled c.in_ok-cuts.cuts c.requires.start c.in_ok-cuts.ensures.cuts) some

pub returns-clause-among : goal.returns-clause-among
returns-clause-among g c = c.in_ok-cuts.ensures.cuts.among
