use Rattle.std.proofs.Common.{◌+◌, ◌∙◌, subst, sym, take}
use Rattle.net_core.proofs.Library.{err_from_is_err_and}
use Rattle.board_desk.specs.Turns.{caller_seen}
use Rattle.session_run.{specs.inner.Running.{AreFewOwn, IsFullAt, case_made, commands_of, is_of}, proofs.Dealt.few_so_far, proofs.Sofar.{acted_on, begun, passed_over, stopped_few}, proofs.Turns.{same_both, still_of}, proofs.one_caller.run_caller.Goals.{then-command-number+in_ok-run_command, else-command-number}}
use Rattle.session_run.proofs.one_caller.run_caller.Goals as goal

pub loop-command-init : goal.loop-command-init
loop-command-init g c = rw c.new-outcomes.ensures.items (begun c.args.setting.now c.args.caller.now c.args.setting.now.commands.now c.requires)

pub run_command-requires-clause-of : goal.run_command-requires-clause-of
run_command-requires-clause-of g c = still_of c.args.setting.now c.args.caller.now c.loop-command.caller c.requires.of c.loop-command.invariant.same

pub run_command-requires-clause-number : goal.run_command-requires-clause-number
run_command-requires-clause-number g c = c.loop-command.invariant.same.number ∙ sym (c.if-command-number.true ∙ c.number-number.ensures)

pub returns-in_err-run_command-clause-same : goal.returns-in_err-run_command-clause-same
returns-in_err-run_command-clause-same g c = same_both c.args.caller.now c.loop-command.caller c.run_command.new.caller c.loop-command.invariant.same c.run_command.ensures.same

pub returns-in_err-run_command-clause-run : goal.returns-in_err-run_command-clause-run
returns-in_err-run_command-clause-run g c =
    let first = c.args.caller.now in
    let k = first.number in
    let cs = c.args.setting.now.commands.now in
    let i = c.loop-command.command-index in
    let left = caller_seen c.run_command.new.caller in
    let all = commands_of k (k + 1) cs in
    let p = err_from_is_err_and c.from_residual.result c.from_residual.ensures.1 in
    rw p.1 (subst (λ stop. AreFewOwn left all × IsFullAt left.history stop) (sym p.2)
    (stopped_few (case_made first) (caller_seen c.loop-command.caller) left (commands_of k (k + 1) (take i cs)) all c.loop-command.outcomes.items c.in_err-run_command.field-0.0
    c.loop-command.invariant.run (few_so_far (is_of k (k + 1)) cs i) c.in_err-run_command.ensures.act))

pub loop-command-preserved : goal.loop-command-preserved
loop-command-preserved g c =
    let first = c.args.caller.now in
    let now = c.loop-command.caller in
    let cs = c.args.setting.now.commands.now in
    let i = c.loop-command.command-index in
    let k = c.command-item.result in
    let outs = c.loop-command.outcomes.items in
    elim c.if-command-number.branch [
      | then-command-number+in_ok-run_command w ↦ rw (w.outcomes-is, w.caller-is) (acted_on first now cs i k outs c.loop-command-test.true c.command-item.is c.loop-command.invariant
          w.run_command.new.caller w.run_command.new.outcomes.items c.requires.form (w.if-command-number.true ∙ c.number-number.ensures) w.run_command.ensures.same w.in_ok-run_command.ensures.act)
      | else-command-number w ↦ rw (w.outcomes-is, w.caller-is) (passed_over first now cs i k outs c.loop-command-test.true c.command-item.is c.loop-command.invariant (λ e. w.if-command-number.false (e ∙ sym c.number-number.ensures)))
    ]
