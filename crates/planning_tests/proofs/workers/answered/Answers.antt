use Rattle.std.proofs.Common.{refl, subst, sym}
use Rattle.separation_workers.{specs.Callers.HasSeenHistory, proofs.Seen.seen_after_turn}
use Rattle.planning_tests.proofs.workers.answered.Goals as goal

pub new-separator-requires-clause-seen : goal.new-separator-requires-clause-seen
new-separator-requires-clause-seen g c =
    let turn = c.snapshot.ensures.turn in
    subst HasSeenHistory (sym c.take.ensures.moved)
    (seen_after_turn c.args.caller.now c.snapshot.new.self turn.0 turn.0 turn.2 refl c.snapshot.ensures.same)
