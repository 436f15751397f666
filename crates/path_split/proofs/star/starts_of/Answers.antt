use Rattle.path_split.proofs.Starts.{starts_push}
use Rattle.path_split.proofs.star.starts_of.Goals as goal

pub loop-x-preserved : goal.loop-x-preserved
loop-x-preserved c =
    rw c.in_ok-push.ensures.items (starts_push c.args.legs.now c.loop-x.starts.items c.loop-x.x _ c.loop-x.invariant.0 c.loop-x.invariant.1 c.start_of.ensures)
