use Rattle.std.{proofs.Common.arith, proofs.lemmas.Nat.Gcd.le_of_dvd}
use Rattle.table_maker.proofs.narrow.narrow_divisor.Goals as goal

pub returns-else-common-least-clause-narrow : goal.returns-else-common-least-clause-narrow
returns-else-common-least-clause-narrow c = (
  c.common_in-common.ensures.positive,
  le_of_dvd c.requires c.common_in-common.ensures.divides.need,
  omega (arith, c.div_ceil-least.ensures, c.need_of.ensures, c.if-common-least.false),
)
