use Rattle.std.proofs.Common.{◌≡◌, ◌∙◌, ℕ, List, Option, None, Some, subst}
use Rattle.plan_terms.specs.Terms.{Link}
use Rattle.plan_types.{specs.Terms.lines_of_certificate, specs.declared.certificate.CertLine.CertLine}
use Rattle.plan_checker.{specs.Certified.IsOverpriced, specs.inner.Lines.certified, specs.inner.Tests.IsFirstPair, specs.declared.place.Place.Place, proofs.Telling.no_price}
use Rattle.plan_checker.proofs.certificate.check_prices.Goals as goal

-- what a search found of lent links and lines holds of those that they are lent from
found : (den : ℕ) (links lent : List Link) (lines held : List CertLine) (o known : Option Place) → lent ≡ links → held ≡ lines → o ≡ known → IsFirstPair (IsOverpriced lent den (certified held)) o → IsFirstPair (IsOverpriced links den (certified lines)) known
found den links lent lines held o known first second third is =
    subst (IsFirstPair (IsOverpriced links den (certified lines))) third
    (subst (λ ls. IsFirstPair (IsOverpriced links den (certified ls)) o) second
    (subst (λ ks. IsFirstPair (IsOverpriced ks den (certified held)) o) first is))

pub returns-in-Some-clause-told : goal.returns-in-Some-clause-told
returns-in-Some-clause-told c = found c.args.plan.now.certificate.den _ _ _ _ _ (Some c.in-Some.at) (c.items-links.ensures ∙ c.links.ensures) c.items-lines.ensures c.in-Some.is c.overpriced-place.ensures

pub returns-clause-told : goal.returns-clause-told
returns-clause-told c = no_price _ _ (lines_of_certificate c.args.plan.now.certificate) (found c.args.plan.now.certificate.den _ _ _ _ _ None (c.items-links.ensures ∙ c.links.ensures) c.items-lines.ensures c.in_default.is c.overpriced-place.ensures)

pub returns-clause-priced : goal.returns-clause-priced
returns-clause-priced c = found c.args.plan.now.certificate.den _ _ _ _ _ None (c.items-links.ensures ∙ c.links.ensures) c.items-lines.ensures c.in_default.is c.overpriced-place.ensures
