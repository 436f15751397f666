use Rattle.std.proofs.Common.{◌≡◌, ◌<◌, ◌^◌, refl, subst, sym, arith}
use Rattle.plan_terms.specs.Terms.{IsBound, IsLowest, asked, given, raw_value}
use Rattle.plan_checker.{specs.inner.Lines.certified, proofs.Telling.{no_bound, no_raw, no_wide}}
use Rattle.plan_checker.proofs.worth.check_worth.Goals as goal

pub returns-clause-told : goal.returns-clause-told
returns-clause-told c =
    let links = c.args.links.now in
    let plan = c.args.plan.now in
    let lines = certified plan.certificate.lines in
    let same = c.items-lines.ensures in
    let asked_low : asked (certified c.items-lines.result.now) < 2 ^ 126 = omega (arith, c.asked_of-asked.ensures, c.if-asked-ge-WIDE.false) in
    let given_low : given links (certified c.items-lines.result.now) < 2 ^ 126 = omega (arith, c.given_of-given.ensures, c.if-given-ge-WIDE.false) in
    let raw_here : c.saturating_sub-raw.result ≡ raw_value links (certified c.items-lines.result.now) = omega (arith, c.saturating_sub-raw.ensures, c.asked_of-asked.ensures, c.given_of-given.ensures, asked_low, given_low) in
    let raw : c.saturating_sub-raw.result ≡ raw_value links lines = subst (λ ls. c.saturating_sub-raw.result ≡ raw_value links (certified ls)) same raw_here in
    let low = subst (λ x. IsLowest x plan.certificate.den plan.raw_num plan.raw_den) raw (c.if-not-is_lowest.ensures.0 refl) in
    let bound = subst (λ x. IsBound links x plan.certificate.den plan.bound) raw (subst (IsBound links c.saturating_sub-raw.result plan.certificate.den) (sym c.if-plan-bound.false) c.bound_of-bound.ensures) in (
      no_wide links lines (subst (λ ls. asked (certified ls) < 2 ^ 126) same asked_low) (subst (λ ls. given links (certified ls) < 2 ^ 126) same given_low),
      (no_raw links plan low, (no_bound links plan c.requires.positive bound, tt)),
    )
