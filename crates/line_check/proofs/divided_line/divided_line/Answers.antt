use Rattle.std.proofs.Common.{◌≡◌, ℕ, ◌<◌, ◌^◌, false, length, ap, subst, sym, ◌∙◌, arith}
use Rattle.net_core.proofs.Library.{false≢true}
use Rattle.line_check.{specs.Inequalities.summed_need, specs.Lines.divided_up, specs.Testing.weighed, specs.declared.inequality.Inequality.Inequality, specs.inner.Dividing.AreDividedCoefs, proofs.DividedTold.{divided_made, divided_need, divided_prices, terms_told}}
use Rattle.line_check.proofs.divided_line.divided_line.Goals as goal

pub returns-then-not-are_sound : goal.returns-then-not-are_sound
returns-then-not-are_sound c =
    λ made is. false≢true (sym c.if-not-are_sound.true ∙ c.are_sound.ensures.1 (terms_told c.args.tested.now false c.args.links.now c.args.divisor c.args.terms.now made is).0)

pub returns-then-need-ge-WIDE : goal.returns-then-need-ge-WIDE
returns-then-need-ge-WIDE c =
    λ made is. omega (arith, c.if-need-ge-WIDE.true, c.summed_need-need.ensures, divided_need c.args.tested.now false c.args.links.now c.args.divisor c.args.terms.now made is)

pub returns-in-None : goal.returns-in-None
returns-in-None c =
    λ made is.
    let wide = rw c.in-None.is at c.in_ok-all_coefs.ensures in
    let low = divided_prices c.args.tested.now false c.args.links.now c.args.divisor c.args.terms.now made is wide.0 wide.2.0 wide.1 wide.2.1 in
    omega (arith, low, wide.2.2)

pub returns-in-Some : goal.returns-in-Some
returns-in-Some c =
    let terms = weighed c.args.tested.now c.args.terms.now in
    let links = c.args.links.now in
    let divisor = c.args.divisor in
    let low : summed_need terms < 2 ^ 126 = omega (arith, c.summed_need-need.ensures, c.if-need-ge-WIDE.false) in
    let same : c.summed_need-need.result ≡ summed_need terms = omega (arith, c.summed_need-need.ensures, c.if-need-ge-WIDE.false) in
    let are = rw c.in-Some.is at c.in_ok-all_coefs.ensures in
    let right : c.divided_up.result ≡ divided_up (summed_need terms) divisor = c.divided_up.ensures ∙ ap (λ n. divided_up n divisor) same in
    let made : Inequality = record { coefs = c.in-Some.coefs; given = 0; right = c.divided_up.result } in
    divided_made c.args.tested.now false links divisor c.args.terms.now c.in-Some.coefs made
    (c.are_in_limits.ensures.0 c.if-not-are_in_limits.false)
    (c.are_sound.ensures.0 c.if-not-are_sound.false)
    low
    (subst (λ n. AreDividedCoefs links terms n divisor (length links) c.in-Some.coefs) same are)
    (ap (λ (n : ℕ). record { coefs = c.in-Some.coefs; given = 0; right = n }) right)
