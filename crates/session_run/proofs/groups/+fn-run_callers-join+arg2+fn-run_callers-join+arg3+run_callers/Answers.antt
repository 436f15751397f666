use denote.Param.Send.{sendable}
use Rattle.std.proofs.Common.{◌∙◌, ◌-◌, ◌/◌, arith, subst, sym}
use Rattle.net_core.proofs.Library.{crosses}
use Rattle.board_desk.{proofs.Sent.caller_send, specs.Turns.caller_seen}
use Rattle.cut_pool.specs.Terms.{opening_case}
use Rattle.turn_lock.specs.Passes.{opening_of}
use Rattle.session_run.{specs.inner.Running.{EndsRun, case_made, commands_of}, proofs.Dealt.{all_first, all_second}, proofs.Meeting.callers_met, proofs.Sent.{outcome_send, setting_sync}}
use Rattle.session_run.proofs.groups.+fn-run_callers-join+arg2+fn-run_callers-join+arg3+run_callers.Goals as goal

pub returns-then-high-low-le1-clause-run : goal.returns-then-high-low-le1-clause-run
returns-then-high-low-le1-clause-run g t c =
    subst (λ k. EndsRun (case_made c.args.caller) (commands_of c.args.low k c.args.setting.now.commands.now) (caller_seen c.run_one.result.1) c.run_one.result.0)
    (omega (arith, c.if-high-low-le1.true, c.requires.some)) c.run_one.ensures.run

pub returns-then-not-names_any-clause-run : goal.returns-then-not-names_any-clause-run
returns-then-not-names_any-clause-run g t c =
    let low = c.args.low in
    let high = c.args.high in
    let middle = high - (high - low) / 2 in
    let cs = c.args.setting.now.commands.now in
    subst (λ l. EndsRun (case_made c.args.caller) l (caller_seen c.run_callers.result.1) c.run_callers.result.0)
    (sym (all_first low middle high (omega (arith, c.if-high-low-le1.false)) (omega (arith, c.if-high-low-le1.false)) cs (sym c.names_any.ensures ∙ c.if-not-names_any.true)))
    c.run_callers.ensures.run

pub returns-then-not-names_any-2-clause-run : goal.returns-then-not-names_any-2-clause-run
returns-then-not-names_any-2-clause-run g t c =
    let low = c.args.low in
    let high = c.args.high in
    let middle = high - (high - low) / 2 in
    let cs = c.args.setting.now.commands.now in
    let ran = c.run_callers-then-not-names_any-2 in
    subst (λ l. EndsRun (case_made c.args.caller) l (caller_seen ran.result.1) ran.result.0)
    (sym (all_second low middle high (omega (arith, c.if-high-low-le1.false)) (omega (arith, c.if-high-low-le1.false)) cs (sym c.names_any-2.ensures ∙ c.if-not-names_any-2.true)))
    ran.ensures.run

pub join-first-requires-send-F : goal.join-first-requires-send-F
join-first-requires-send-F g t c κs within = search (sendable, crosses, caller_send, setting_sync) depth 20

pub join-first-requires-send-A : goal.join-first-requires-send-A
join-first-requires-send-A g t c κs within = search (sendable, crosses, caller_send, outcome_send) depth 20

pub returns-clause-desk : goal.returns-clause-desk
returns-clause-desk g t c =
    (c.split-one.ensures.own.0.0 ∙ (c.join-first.ensures.first.0.0 ∙ c.meet.ensures.own.0), c.split-one.ensures.own.0.1, c.meet.ensures.own.2)

pub returns-clause-run : goal.returns-clause-run
returns-clause-run g t c =
    let low = c.args.low in
    let high = c.args.high in
    let middle = high - (high - low) / 2 in
    let cs = c.args.setting.now.commands.now in
    let one = c.join-first.result.0.1 in
    let two = c.join-first.result.1.1 in
    callers_met (case_made c.args.caller) one two c.meet.result low middle high (omega (arith, c.if-high-low-le1.false)) (omega (arith, c.if-high-low-le1.false)) cs
    c.meet.ensures.first c.meet.ensures.second c.meet.ensures.places
    c.join-first.result.0.0 c.join-first.result.1.0 c.both.result
    (sym c.names_any-2.ensures ∙ c.if-not-names_any-2.false) (sym c.names_any.ensures ∙ c.if-not-names_any.false) c.both.ensures
    (subst (λ d. EndsRun (opening_case (opening_of d)) (commands_of low middle cs) (caller_seen one) c.join-first.result.0.0) (sym c.split-one.ensures.own.0.0) c.join-first.ensures.first.1.1)
    (subst (λ d. EndsRun (opening_case (opening_of d)) (commands_of middle high cs) (caller_seen two) c.join-first.result.1.0) (sym c.split-one.ensures.own.1.0) c.join-first.ensures.second.1.1)
