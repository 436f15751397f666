use Rattle.std.proofs.Common.{arith, ap, ◌∙◌}
use Rattle.net_core.proofs.Library.{nil_from_length}
use Rattle.turn_lock.proofs.Passing.{joins, settle_allows}
use Rattle.turn_lock.proofs.steps.join.Goals as goal

pub join_seat-requires : goal.join_seat-requires
join_seat-requires g c = (
  c.requires.own,
  c.requires.same,
  nil_from_length c.args.other.me.1 c.requires.hand,
  omega (arith, c.requires.sizes),
  joins g.T.Chronicle.history g.T.Chronicle.origin _ _ c.args.seat.now.me.0 _ c.args.other.me.0 c.requires.idle.0 c.requires.idle.1 c.requires.units,
)

pub load-requires : goal.load-requires
load-requires g c = (
  c.join_seat.ensures.0 ∙ c.requires.own,
  omega (arith, c.requires.sizes),
  settle_allows g.T.Chronicle.history g.T.Chronicle.origin _ _ _ c.join_seat.new.seat.me.0 c.join_seat.new.seat.me.1 c.args.other.me.0.seen (ap (λ m. m.0.stage) c.join_seat.ensures.2),
)
