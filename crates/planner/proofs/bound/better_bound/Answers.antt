use Rattle.planner.proofs.GreaterBounds.{own_positive}
use Rattle.planner.proofs.bound.better_bound.Goals as goal

pub is_at_least-requires-clause-raw : goal.is_at_least-requires-clause-raw
is_at_least-requires-clause-raw c = own_positive c.args.net.now.links c.args.worked.now c.in_ok-own.own c.in_ok-own.ensures
