use Rattle.std.proofs.Common.{◌≡◌, ◌+◌, ◌<◌, [], ap, arith, length, subst}
use Rattle.net_core.proofs.Library.{IfOk-weaker, nil_from_length}
use Rattle.plan_terms.specs.Terms.{case_of}
use Rattle.board_desk.specs.Turns.{caller_seen}
use Rattle.separator.{specs.Separators.cuts_answered, specs.inner.Working.AreOtherAnswers, proofs.SomeAnswers.{answered_wider, cuts_are_some, others_none}}
use Rattle.separation_workers.proofs.Working.{among_after_nothing, below_after_nothing, cuts_pooled, goes_on, pooled_nothing, still_in}
use Rattle.separation_workers.proofs.some_states.ask_ring.Goals as goal

pub ask_before-requires-clause-caller : goal.ask_before-requires-clause-caller
ask_before-requires-clause-caller g c = still_in c.args.round.now c.args.caller.now c.ask_until_cuts.new.caller c.requires.caller c.ask_until_cuts.ensures.goes

pub ask_before-requires-clause-later : goal.ask_before-requires-clause-later
ask_before-requires-clause-later g c =
    let p = case_of c.args.round.now.instance in
    let caps = c.args.round.now.caps.now in
    let empty : c.in_ok-cuts.cuts ≡ [] = nil_from_length c.in_ok-cuts.cuts (omega (arith, c.if-len-eq0.true, c.len.ensures)) in
    subst (λ n. AreOtherAnswers p caps c.min-start.result n c.ask_until_cuts.new.others) c.count-count.ensures
    (c.in_ok-cuts.ensures.others empty c.min-start.result (others_none p caps c.min-start.result c.new-later.result c.new-later.ensures))

pub returns-then-len-eq0-clause-goes : goal.returns-then-len-eq0-clause-goes
returns-then-len-eq0-clause-goes g c = goes_on c.args.caller.now c.ask_until_cuts.new.caller c.ask_before.new.caller c.ask_until_cuts.ensures.goes c.ask_before.ensures.goes

pub returns-then-len-eq0-clause-below : goal.returns-then-len-eq0-clause-below
returns-then-len-eq0-clause-below g c =
    let n = length c.args.round.now.instance.states.now.listed + 1 in
    let a = c.args.caller.now in
    let b = c.ask_until_cuts.new.caller in
    let empty : c.in_ok-cuts.cuts ≡ [] = nil_from_length c.in_ok-cuts.cuts (omega (arith, c.if-len-eq0.true, c.len.ensures)) in
    below_after_nothing (case_of c.args.round.now.instance) c.args.round.now.caps.now n n a b c.ask_before.new.caller (omega arith) c.ask_until_cuts.ensures.goes c.ask_before.ensures.goes
    (pooled_nothing a b (cuts_answered c.in_ok-cuts.cuts) (ap cuts_answered empty) c.in_ok-cuts.ensures.cuts.among) c.ask_before.ensures.below

pub returns-then-len-eq0-clause-among : goal.returns-then-len-eq0-clause-among
returns-then-len-eq0-clause-among g c =
    let a = c.args.caller.now in
    let b = c.ask_until_cuts.new.caller in
    let empty : c.in_ok-cuts.cuts ≡ [] = nil_from_length c.in_ok-cuts.cuts (omega (arith, c.if-len-eq0.true, c.len.ensures)) in
    let none = pooled_nothing a b (cuts_answered c.in_ok-cuts.cuts) (ap cuts_answered empty) c.in_ok-cuts.ensures.cuts.among in
    IfOk-weaker c.ask_before.result _ _
    (λ answers among. among_after_nothing a b c.ask_before.new.caller (cuts_answered answers) c.ask_until_cuts.ensures.goes c.ask_before.ensures.goes none among)
    c.ask_before.ensures.among

pub returns-clause-answers : goal.returns-clause-answers
returns-clause-answers g c =
    let p = case_of c.args.round.now.instance in
    let caps = c.args.round.now.caps.now in
    let h = (caller_seen c.ask_until_cuts.new.caller).history in
    let pooled = cuts_pooled c.args.caller.now c.ask_until_cuts.new.caller in
    let some : 0 < length c.in_ok-cuts.cuts = omega (arith, c.if-len-eq0.false, c.len.ensures) in
    cuts_are_some p caps h pooled c.in_ok-cuts.cuts
    (answered_wider p caps c.count-count.result (length c.args.round.now.instance.states.now.listed + 1) h pooled c.in_ok-cuts.cuts (omega (arith, c.count-count.ensures)) c.in_ok-cuts.ensures.cuts) some

pub returns-clause-among : goal.returns-clause-among
returns-clause-among g c = c.in_ok-cuts.ensures.cuts.among
