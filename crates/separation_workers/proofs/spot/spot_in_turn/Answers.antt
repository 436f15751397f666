use Rattle.separation_workers.proofs.Pooling.{answer_pools, answer_sees, answer_spot}
use Rattle.separation_workers.proofs.spot.spot_in_turn.Goals as goal

pub returns-clause-goes : goal.returns-clause-goes
returns-clause-goes g c = answer_sees c.args.cut c.admit.result c.args.caller.now c.admit.new.self c.admit.ensures.turn c.admit.ensures.same

pub returns-clause-pools : goal.returns-clause-pools
returns-clause-pools g c = answer_pools c.args.cut c.admit.result c.args.caller.now c.admit.new.self c.admit.ensures.turn

pub returns-clause-spot : goal.returns-clause-spot
returns-clause-spot g c = answer_spot c.args.cut c.admit.result c.args.caller.now c.admit.new.self c.admit.ensures.turn c.spot_after.result c.spot_after.ensures
