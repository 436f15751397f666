use Rattle.separation_workers.proofs.Desks.{at_desk, same_frame}
use Rattle.separation_workers.proofs.workers.WorkersSeparate.admit.Goals as goal

pub spot_in_turn-requires-clause-own : goal.spot_in_turn-requires-clause-own
spot_in_turn-requires-clause-own g c = at_desk c.args.self.now.caller c.args.self.now.own

pub returns-clause-frame : goal.returns-clause-frame
returns-clause-frame g c = same_frame c.args.self.now.caller c.spot_in_turn.new.caller c.spot_in_turn.ensures.goes.same

pub returns-clause-more : goal.returns-clause-more
returns-clause-more g c = c.spot_in_turn.ensures.goes.more
