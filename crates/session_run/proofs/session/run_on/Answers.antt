use Rattle.std.proofs.Common.{◌∙◌, ap, subst, sym}
use Rattle.cut_pool.specs.Terms.{opening_case, origin_of}
use Rattle.turn_lock.specs.Passes.{opening_of}
use Rattle.board_desk.specs.Turns.{caller_seen, seen_in}
use Rattle.session_run.{specs.inner.Running.{HaveRun, all_own, case_made}, proofs.Closing.{closed_run, never_full, seen_all}, proofs.Planning.same_opening}
use Rattle.session_run.proofs.session.run_on.Goals as goal

pub returns-in-Ok-clause-run : goal.returns-in-Ok-clause-run
returns-in-Ok-clause-run g c =
    let caller = c.run_callers-outcomes.result.1 in
    let closed = c.close-board.result in
    let all = ap seen_in c.into_pass-pass.ensures ∙ seen_all c.into_pass-pass.result closed.entries c.close-board.ensures.stands c.close-board.ensures.places in
    subst (HaveRun (opening_case closed) (all_own closed.entries) c.args.setting.now.commands.now) (sym c.from_vec.ensures)
    (closed_run closed (caller_seen caller) all (case_made c.new-2.result) c.args.setting.now.commands.now c.requires.script c.run_callers-outcomes.result.0 c.run_callers-outcomes.ensures.run c.in-Ok.outcomes c.in-Ok.is
    (same_opening closed (opening_of c.new-2.result.desk.now) (c.close-board.ensures.origin ∙ ap (λ d. origin_of (opening_of d)) (sym c.new-2.ensures.desk))))

pub no_memory-requires : goal.no_memory-requires
no_memory-requires g c =
    let caller = c.run_callers-outcomes.result.1 in
    let closed = c.close-board.result in
    let all = ap seen_in c.into_pass-pass.ensures ∙ seen_all c.into_pass-pass.result closed.entries c.close-board.ensures.stands c.close-board.ensures.places in
    never_full closed (caller_seen caller) all (case_made c.new-2.result) c.args.setting.now.commands.now c.requires.script c.run_callers-outcomes.result.0 c.run_callers-outcomes.ensures.run c.in-Err.stop c.in-Err.is
