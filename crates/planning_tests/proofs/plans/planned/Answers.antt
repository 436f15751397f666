use Rattle.std.proofs.Common.{ap, sym, subst}
use Rattle.net_core.specs.Terms.{case}
use Rattle.cut_pool.specs.declared.board.Board.{Board}
use Rattle.planner.{specs.SnapshotPlans.IsSnapshotIn, proofs.SnapshotGiven.board_snapshot}
use Rattle.planning_tests.proofs.plans.planned.Goals as goal

pub plan_snapshot-requires-clause-snapshot : goal.plan_snapshot-requires-clause-snapshot
plan_snapshot-requires-clause-snapshot c =
    let net = c.args.net.now in
    let states = c.args.states.now in
    let s = c.in_ok-snapshot.snapshot in
    let given = board_snapshot net states c.in_ok-board.board s (ap (λ o. o.0) c.in_ok-board.ensures.origin) (ap (λ o. o.1) c.in_ok-board.ensures.origin) c.in_ok-snapshot.ensures in
    subst (λ (b : Board). ∥ IsSnapshotIn (case net states s.demands) b.entries s ∥₁) (sym c.new-separator.ensures.board) given
