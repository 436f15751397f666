use Rattle.std.proofs.Common.{arith}
use Rattle.turn_lock.proofs.Turns.{commit_at, holding_from_number}
use Rattle.turn_lock.proofs.steps.commit.Goals as goal

pub fetch_add-requires : goal.fetch_add-requires
fetch_add-requires g c = let h = c.requires.hand in (c.requires.own, omega (arith, c.requires.sizes), commit_at g.T.Chronicle.history g.T.Chronicle.origin _ _ _ (holding_from_number _ c.requires.holds).0 c.args.seat.now.me.0 c.args.seat.now.me.1 h.0 h.1 h.2 (holding_from_number _ c.requires.holds).1 h.3)
