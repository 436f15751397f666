use Rattle.std.proofs.Common.{eqb-true, arith}
use Rattle.plan_checker.proofs.MixedSums.{mixed_whole}
use Rattle.plan_checker.proofs.mixed.Mixed.is.Goals as goal

pub returns-else-self-whole : goal.returns-else-self-whole
returns-else-self-whole c = λ den n is. (
  λ t. absurd (omega (arith, c.if-self-whole.false, eqb-true _ _ t)),
  λ e. absurd (omega (arith, c.if-self-whole.false, (mixed_whole den n c.args.whole c.args.self.now is c.requires e).0)),
)
