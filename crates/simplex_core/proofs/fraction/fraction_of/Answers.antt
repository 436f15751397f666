use Rattle.std.{proofs.Common.arith, proofs.lemmas.Nat.Gcd.le_of_dvd}
use Rattle.simplex_core.proofs.Multiples.{quotient_some, quotient_divides, fraction_same}
use Rattle.simplex_core.proofs.fraction.fraction_of.Goals as goal

pub invariant_of-result : goal.invariant_of-result
invariant_of-result c = record {
  positive = quotient_some c.gcd-common.result c.args.den c.requires.some c.gcd-common.ensures.1;
  narrow = omega (arith, c.requires.narrow, le_of_dvd c.requires.some (quotient_divides c.args.den c.gcd-common.result c.gcd-common.ensures.1));
}

pub returns-clause-same : goal.returns-clause-same
returns-clause-same c = fraction_same c.args.value c.args.den c.gcd-common.result c.gcd-common.ensures.0 c.gcd-common.ensures.1

pub returns-clause-divides : goal.returns-clause-divides
returns-clause-divides c = quotient_divides c.args.den c.gcd-common.result c.gcd-common.ensures.1
