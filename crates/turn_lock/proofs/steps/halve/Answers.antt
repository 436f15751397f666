use Rattle.std.proofs.Common.{arith}
use Rattle.turn_lock.proofs.Passing.{splits}
use Rattle.turn_lock.proofs.steps.halve.Goals as goal

pub split_seat-requires : goal.split_seat-requires
split_seat-requires g c = (c.requires.own, omega (arith, c.requires.sizes), splits g.T.Chronicle.history g.T.Chronicle.origin _ _ c.args.seat.now.me.0 c.requires.idle c.requires.units)
