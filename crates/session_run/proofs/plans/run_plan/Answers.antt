use Rattle.std.proofs.Common.{refl}
use Rattle.net_core.proofs.Library.{err_from_is_err_and}
use Rattle.board_desk.specs.Turns.{caller_seen}
use Rattle.separation_workers.proofs.Seen.{seen_after_turn}
use Rattle.session_run.{proofs.Planning.{plan_since, snapshot_at_desk, stopped_since}, proofs.Turns.{same_both, still_of}}
use Rattle.session_run.proofs.plans.run_plan.Goals as goal

pub plan_at-requires-clause-of : goal.plan_at-requires-clause-of
plan_at-requires-clause-of g c = still_of c.args.setting.now c.args.caller.now c.snapshot.new.self c.requires c.snapshot.ensures.same

pub plan_at-requires-clause-seen : goal.plan_at-requires-clause-seen
plan_at-requires-clause-seen g c =
    let turn = c.snapshot.ensures.turn in
    seen_after_turn c.args.caller.now c.snapshot.new.self turn.0 turn.0 turn.2 refl c.snapshot.ensures.same

pub plan_at-requires-clause-snapshot : goal.plan_at-requires-clause-snapshot
plan_at-requires-clause-snapshot g c =
    let turn = c.in_ok-snapshot.ensures.turn in
    snapshot_at_desk c.args.caller.now c.snapshot.new.self turn.0 turn.2 c.snapshot.ensures.same c.args.asked c.in_ok-snapshot.snapshot turn.1

pub returns-clause-same : goal.returns-clause-same
returns-clause-same g c = same_both c.args.caller.now c.snapshot.new.self c.plan_at.new.caller c.snapshot.ensures.same c.plan_at.ensures.same

pub returns-clause-plan : goal.returns-clause-plan
returns-clause-plan g c =
    let turn = c.snapshot.ensures.turn in
    plan_since c.args.caller.now c.snapshot.new.self turn.0 turn.2 c.snapshot.ensures.same c.args.asked (caller_seen c.plan_at.new.caller) c.plan_at.result c.plan_at.ensures.plan

pub returns-in_err-snapshot-clause-plan : goal.returns-in_err-snapshot-clause-plan
returns-in_err-snapshot-clause-plan g c =
    let turn = c.snapshot.ensures.turn in
    let p = err_from_is_err_and c.from_residual.result c.from_residual.ensures.1 in
    rw p.1 (stopped_since c.args.caller.now c.snapshot.new.self turn.0 turn.2 c.snapshot.ensures.same c.args.asked p.0)
