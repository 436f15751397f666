use Rattle.std.proofs.Common.{arith, ◌∙◌}
use Rattle.turn_lock.proofs.Turns.{look_allows, taken_now, hand_is}
use Rattle.turn_lock.proofs.steps.try_take.Goals as goal

pub load-requires : goal.load-requires
load-requires g c = (c.requires.own, omega (arith, c.requires.sizes), look_allows g.T.Chronicle.history g.T.Chronicle.origin _ _ _ c.requires.waits.0 c.args.seat.now.me.0 c.args.seat.now.me.1 c.requires.waits.2)

pub exchange-requires : goal.exchange-requires
exchange-requires g c =
    let t = taken_now g.T.Chronicle.history g.T.Chronicle.origin c.args.seat.now.me c.load.new.seat.me c.args.ticket c.load.result c.requires.waits c.if-load-ticket.false c.load.ensures.2 in
    (c.load.ensures.0 ∙ c.requires.own, (_, hand_is _ _ _ t.2))
