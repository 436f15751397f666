use Rattle.std.proofs.Common.{arith}
use Rattle.turn_lock.proofs.Turns.{draw_allows, idle_from_number}
use Rattle.turn_lock.proofs.steps.draw.Goals as goal

pub fetch_add-requires : goal.fetch_add-requires
fetch_add-requires g c = (c.requires.own, omega (arith, c.requires.sizes), draw_allows g.T.Chronicle.history g.T.Chronicle.origin _ _ _ c.args.seat.now.me.0 c.args.seat.now.me.1 (idle_from_number _ c.requires.idle) c.requires.units)
