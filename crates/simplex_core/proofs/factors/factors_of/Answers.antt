use Rattle.std.proofs.Common.{pos, ◌*ℤ◌, sym, ap, ◌∙◌}
use Rattle.checked_fraction.{proofs.Products.positive_factor, proofs.Quotients.exact_quotient}
use Rattle.simplex_core.proofs.factors.factors_of.Goals as goal

pub returns-clause-times : goal.returns-clause-times
returns-clause-times c =
    let g = c.common_divisor-g.result in (
      g,
      c.common_divisor-g.ensures.some,
      sym (ap (λ x. pos g *ℤ x) c.over.ensures.p ∙ exact_quotient g c.args.p.now c.common_divisor-g.ensures.gcd.0),
      sym (ap (λ x. pos g *ℤ x) c.over.ensures.q ∙ exact_quotient g c.args.q.now c.common_divisor-g.ensures.gcd.1),
    )

pub returns-clause-positive : goal.returns-clause-positive
returns-clause-positive c =
    positive_factor c.common_divisor-g.result _ c.args.q.now
    (sym (ap (λ x. pos c.common_divisor-g.result *ℤ x) c.over.ensures.q ∙ exact_quotient _ c.args.q.now c.common_divisor-g.ensures.gcd.1))
    c.requires.positive
