use Rattle.outside_io.proofs.Writing.{Appends-once}
use Rattle.outside_io.proofs.stream.write_whole.Goals as goal

pub loop-preserved : goal.loop-preserved
loop-preserved g c =
    Appends-once _ _ _ _ _ _ c.loop.invariant.0 c.loop.invariant.1 c.in_ok-done.ensures.0 c.in_ok-done.ensures.1
