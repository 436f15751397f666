use Rattle.std.{proofs.Common.{◌≡◌, ◌≤◌, unsigned_abs, subst, arith}, proofs.lemmas.Nat.Gcd.le_of_dvd}
use Rattle.net_core.proofs.Library.{ints, IsGcd, positive_divisor}
use Rattle.checked_fraction.proofs.pivot.factor_of.Goals as goal

pub returns-clause-gcd : goal.returns-clause-gcd
returns-clause-gcd c =
    let p : c.unsigned_abs.result ≡ unsigned_abs c.args.mix.now.p = omega (arith, ints) in
    let q : c.unsigned_abs-2.result ≡ unsigned_abs c.args.mix.now.q = omega (arith, ints) in
    subst (λ x. IsGcd x (unsigned_abs c.args.mix.now.q) c.word_gcd.result) p (subst (λ x. IsGcd c.unsigned_abs.result x c.word_gcd.result) q c.word_gcd.ensures)

pub returns-clause-positive : goal.returns-clause-positive
returns-clause-positive c = positive_divisor _ c.unsigned_abs-2.result (omega (arith, ints)) c.word_gcd.ensures.1

pub returns-clause-narrow : goal.returns-clause-narrow
returns-clause-narrow c =
    let low : c.word_gcd.result ≤ c.unsigned_abs-2.result = le_of_dvd (omega (arith, ints)) c.word_gcd.ensures.1 in
    omega (arith, ints)
