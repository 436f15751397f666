use Rattle.std.{proofs.Common.{◌≡◌, ◌<◌, ◌/◌, ◌^◌, unsigned_abs, subst, arith, ltb-true}, proofs.lemmas.Nat.Gcd.same_from_IsGcd}
use Rattle.net_core.proofs.Library.{ints}
use Rattle.simplex_core.proofs.factors.is_narrow_over.Goals as goal

pub returns-clause-yes : goal.returns-clause-yes
returns-clause-yes c = λ yes g is.
    let size : c.unsigned_abs.result ≡ unsigned_abs c.args.p.now = omega (arith, ints) in
    subst (λ x. unsigned_abs c.args.p.now / x < 2 ^ 62) (same_from_IsGcd _ _ c.common_divisor.result g c.common_divisor.ensures.gcd is)
    (subst (λ x. x / c.common_divisor.result < 2 ^ 62) size (ltb-true _ _ yes))
