use Rattle.std.{proofs.Common.{◌≡◌, ◌≤◌, unsigned_abs, subst, arith}, proofs.lemmas.Nat.Gcd.le_of_dvd}
use Rattle.net_core.proofs.Library.{ints, IsGcd, positive_divisor}
use Rattle.simplex_core.proofs.factors.common_divisor.Goals as goal

pub returns-clause-gcd : goal.returns-clause-gcd
returns-clause-gcd c =
    let p : c.unsigned_abs.result ≡ unsigned_abs c.args.p.now = omega (arith, ints) in
    let q : c.unsigned_abs-2.result ≡ unsigned_abs c.args.q.now = omega (arith, ints) in
    subst (λ x. IsGcd x (unsigned_abs c.args.q.now) c.gcd.result) p (subst (λ x. IsGcd c.unsigned_abs.result x c.gcd.result) q c.gcd.ensures)

pub returns-clause-some : goal.returns-clause-some
returns-clause-some c = positive_divisor _ c.unsigned_abs-2.result (omega (arith, ints)) c.gcd.ensures.1

pub returns-clause-narrow : goal.returns-clause-narrow
returns-clause-narrow c =
    let low : c.gcd.result ≤ c.unsigned_abs-2.result = le_of_dvd (omega (arith, ints)) c.gcd.ensures.1 in
    omega (arith, ints)
