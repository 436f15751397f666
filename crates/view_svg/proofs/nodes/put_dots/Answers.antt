use Rattle.std.proofs.Common.{arith}
use Rattle.view_svg.{specs.Pictures.drawn_dot, proofs.Pieces.next_piece}
use Rattle.view_svg.proofs.nodes.put_dots.Goals as goal

pub loop-spot-preserved : goal.loop-spot-preserved
loop-spot-preserved c =
    next_piece drawn_dot c.args.spots.now c.loop-spot.spot-index _ c.args.text.now c.loop-spot.text c.put_dot.new.text (omega arith) c.loop-spot.invariant
    c.in_ok-put_dot.ensures
