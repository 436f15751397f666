use Rattle.std.proofs.Common.{arith}
use Rattle.checked_fraction.proofs.Quotients.{quotient_below}
use Rattle.checked_fraction.proofs.pivot.wide_number.Goals as goal

pub returns-then-den-lt-WIDE-clause-none : goal.returns-then-den-lt-WIDE-clause-none
returns-then-den-lt-WIDE-clause-none c = λ none. (
  λ k lt. quotient_below _ _ c.args.survey.now.top _ c.args.survey.now.common.positive (c.requires.top k lt) (omega (arith, c.quotient.ensures, c.if-quotient-lt-WIDE.true)),
  c.if-den-lt-WIDE.true,
)
