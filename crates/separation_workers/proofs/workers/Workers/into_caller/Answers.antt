use Rattle.separation_workers.proofs.Desks.{at_desk}
use Rattle.separation_workers.proofs.workers.Workers.into_caller.Goals as goal

pub returns-clause-own : goal.returns-clause-own
returns-clause-own g c = at_desk c.args.self.caller c.args.self.own
