use Rattle.std.proofs.Common.{◌∙◌, sym}
use Rattle.net_core.proofs.Lists.{some_same}
use Rattle.turn_lock.proofs.Passing.{closed_slot, closed_as}
use Rattle.turn_lock.proofs.desk.Desk.close.Goals as goal

pub unreachable-requires : goal.unreachable-requires
unreachable-requires g c =
    let f = closed_slot g.T.Chronicle.history g.T.Chronicle.origin _ _ c.args.pass.seat.me.0 _ _ c.take-slot.result c.args.pass.idle c.requires.all c.close_with-closed.ensures.values.2 c.take-slot.ensures.value in
    c.in_default.not-Some f.0 f.1

pub returns-clause-origin : goal.returns-clause-origin
returns-clause-origin g c =
    let f = closed_as g.T.Chronicle.history g.T.Chronicle.origin _ _ c.args.pass.seat.me.0 _ _ c.take-slot.result c.in-Some.value c.args.pass.idle c.requires.all c.close_with-closed.ensures.values.2 c.take-slot.ensures.value c.in-Some.is in
    some_same _ _ (sym f.made_of ∙ c.requires.own.1)

pub returns-clause-stands : goal.returns-clause-stands
returns-clause-stands g c = (closed_as g.T.Chronicle.history g.T.Chronicle.origin _ _ c.args.pass.seat.me.0 _ _ c.take-slot.result c.in-Some.value c.args.pass.idle c.requires.all c.close_with-closed.ensures.values.2 c.take-slot.ensures.value c.in-Some.is).stands

pub returns-clause-places : goal.returns-clause-places
returns-clause-places g c = (closed_as g.T.Chronicle.history g.T.Chronicle.origin _ _ c.args.pass.seat.me.0 _ _ c.take-slot.result c.in-Some.value c.args.pass.idle c.requires.all c.close_with-closed.ensures.values.2 c.take-slot.ensures.value c.in-Some.is).places
