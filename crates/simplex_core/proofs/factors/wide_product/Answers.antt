use Rattle.std.proofs.Common.{◌≡◌, arith, subst, refl, ⊎_elim}
use Rattle.net_core.proofs.Library.{cases_lt}
use Rattle.checked_fraction.specs.Terms.{num}
use Rattle.simplex_core.specs.Turned.{IsNarrowOver}
use Rattle.simplex_core.proofs.factors.wide_product.Goals as goal

pub loop-i-preserved : goal.loop-i-preserved
loop-i-preserved c = λ k lt. ⊎_elim
    (λ less. c.loop-i.invariant k less)
    (λ ge. let e : c.loop-i.i ≡ k = omega (arith, lt, ge) in
    subst (λ j. IsNarrowOver (num c.args.products.now c.args.r) (num c.args.products.now j)) e (c.if-not-is_narrow_over-2.ensures.yes refl))
    (cases_lt k c.loop-i.i)
