use Rattle.std.proofs.Common.{◌≡◌, pos, ◌*ℤ◌, w64, to_z, of_z, sym, ap, ◌∙◌, arith}
use Rattle.net_core.proofs.Library.{ints}
use Rattle.checked_fraction.{proofs.Products.positive_factor, proofs.Quotients.exact_quotient}
use Rattle.checked_fraction.proofs.pivot.lowest.Goals as goal

pub returns-clause-times : goal.returns-clause-times
returns-clause-times c =
    let p : to_z w64 (of_z w64 c.quotient.result) ≡ c.quotient.result = omega (arith, ints, c.quotient.type_inv) in
    let q : to_z w64 (of_z w64 c.quotient-2.result) ≡ c.quotient-2.result = omega (arith, ints, c.quotient-2.type_inv) in
    let g = c.factor_of-g.result in (
      g,
      c.factor_of-g.ensures.positive,
      sym (ap (λ x. pos g *ℤ x) (p ∙ c.quotient.ensures.value) ∙ exact_quotient g c.args.mix.now.p c.factor_of-g.ensures.gcd.0),
      sym (ap (λ x. pos g *ℤ x) (q ∙ c.quotient-2.ensures.value) ∙ exact_quotient g c.args.mix.now.q c.factor_of-g.ensures.gcd.1),
    )

pub returns-clause-positive : goal.returns-clause-positive
returns-clause-positive c =
    let q : to_z w64 (of_z w64 c.quotient-2.result) ≡ c.quotient-2.result = omega (arith, ints, c.quotient-2.type_inv) in
    positive_factor c.factor_of-g.result _ c.args.mix.now.q
    (sym (ap (λ x. pos c.factor_of-g.result *ℤ x) (q ∙ c.quotient-2.ensures.value) ∙ exact_quotient _ c.args.mix.now.q c.factor_of-g.ensures.gcd.1))
    c.requires.positive
