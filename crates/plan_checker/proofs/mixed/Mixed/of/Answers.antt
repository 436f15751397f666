use Rattle.std.proofs.Common.{arith}
use Rattle.plan_checker.proofs.MixedSums.{mixed_of}
use Rattle.plan_checker.proofs.mixed.Mixed.of.Goals as goal

pub returns-clause-value : goal.returns-clause-value
returns-clause-value c = mixed_of c.args.den c.args.num c.requires (omega arith)
