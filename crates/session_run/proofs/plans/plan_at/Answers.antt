use Rattle.std.proofs.Common.{refl}
use Rattle.net_core.proofs.Library.{err_from_is_err_and}
use Rattle.plan_terms.specs.Terms.{case}
use Rattle.board_desk.specs.Turns.{board_made, caller_seen}
use Rattle.session_run.{specs.inner.Running.case_made, proofs.Planning.{names_one, plan_made, snapshot_belongs, snapshot_case, snapshot_seen}}
use Rattle.session_run.proofs.plans.plan_at.Goals as goal

pub plan_beside-requires-clause-snapshot : goal.plan_beside-requires-clause-snapshot
plan_beside-requires-clause-snapshot g c =
    let s = c.args.setting.now in
    snapshot_seen s.net.now s.states.now (board_made c.args.caller.now) (caller_seen c.args.caller.now).history c.args.snapshot c.requires.of.net c.requires.of.states c.requires.snapshot

pub plan_beside-requires-clause-belong : goal.plan_beside-requires-clause-belong
plan_beside-requires-clause-belong g c =
    let s = c.args.setting.now in
    snapshot_belongs s.net.now s.states.now (board_made c.args.caller.now) (caller_seen c.args.caller.now).history c.args.snapshot c.requires.of.net c.requires.of.states c.requires.snapshot

pub outcome_for-requires : goal.outcome_for-requires
outcome_for-requires g c =
    let q = case c.args.setting.now.net.now c.args.setting.now.states.now c.args.snapshot.demands in
    names_one q c.args.snapshot (caller_seen c.args.caller.now).history (caller_seen c.plan_beside.new.caller).history c.in_ok-answer.answer refl c.in_ok-answer.ensures.answer

pub returns-clause-plan : goal.returns-clause-plan
returns-clause-plan g c =
    let s = c.args.setting.now in
    let old = c.args.caller.now in
    plan_made (case_made old) (case s.net.now s.states.now c.args.snapshot.demands) c.args.asked (caller_seen old) (caller_seen c.plan_beside.new.caller) c.args.snapshot c.requires.snapshot
    (snapshot_case s.net.now s.states.now (board_made old) (caller_seen old).history c.args.snapshot c.requires.of.net c.requires.of.states c.requires.snapshot) c.plan_beside.ensures.more
    c.in_ok-answer.answer c.outcome_for.result c.in_ok-answer.ensures.answer c.in_ok-answer.ensures.alone c.outcome_for.ensures

pub returns-in_err-answer-clause-plan : goal.returns-in_err-answer-clause-plan
returns-in_err-answer-clause-plan g c =
    let p = err_from_is_err_and c.from_residual.result c.from_residual.ensures.1 in
    rw p.1 (record { more = c.plan_beside.ensures.more; outcome = tt; alone = tt })
