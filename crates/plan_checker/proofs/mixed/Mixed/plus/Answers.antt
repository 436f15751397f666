use Rattle.std.proofs.Common.{arith}
use Rattle.plan_checker.proofs.MixedSums.{mixed_carry, mixed_sum}
use Rattle.plan_checker.proofs.mixed.Mixed.plus.Goals as goal

pub returns-then-rest-den-clause-value : goal.returns-then-rest-den-clause-value
returns-then-rest-den-clause-value c = λ n m first second. mixed_sum c.args.den n m c.args.self c.args.other first second _ c.saturating_add-whole.ensures c.if-rest-den.true

pub returns-else-rest-den-clause-value : goal.returns-else-rest-den-clause-value
returns-else-rest-den-clause-value c = λ n m first second. mixed_carry c.args.den n m c.args.self c.args.other first second _ c.saturating_add-whole.ensures _ c.saturating_add.ensures (omega arith)
