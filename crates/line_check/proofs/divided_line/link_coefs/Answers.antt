use Rattle.std.proofs.Common.{◌≡◌, ℕ, ◌+◌, ◌<◌, ◌^◌, min, ap, subst, sym, ◌∙◌, arith}
use Rattle.line_check.{specs.Inequalities.module_price, specs.Lines.divided_up, specs.Testing.weighed, specs.inner.Dividing.{AreLinkCoefs, divided_coef}, proofs.DividedCoefs.module_more}
use Rattle.line_check.proofs.divided_line.link_coefs.Goals as goal

pub loop-m-preserved : goal.loop-m-preserved
loop-m-preserved c =
    let terms = weighed c.args.tested.now c.args.terms.now in
    let price : ℕ = module_price terms c.args.e c.loop-m.m in
    let low : price < 2 ^ 126 = omega (arith, c.module_price-price.ensures, c.if-price-ge-WIDE.false) in
    let same : c.module_price-price.result ≡ price = omega (arith, c.module_price-price.ensures, c.if-price-ge-WIDE.false) in
    let own : c.divided_up.result ≡ divided_coef terms c.args.need c.args.divisor c.args.e c.loop-m.m =
    c.divided_up.ensures ∙ ap (λ n. divided_up n c.args.divisor) (c.min.ensures ∙ ap (λ n. min n c.args.need) same) in
    let more = module_more terms c.args.need c.args.divisor c.args.e c.loop-m.m c.divided_up.result c.loop-m.coefs c.loop-m.invariant low own in
    subst (λ coefs. AreLinkCoefs terms c.args.need c.args.divisor c.args.e (c.loop-m.m + 1) coefs) (sym c.in_ok-push.ensures.ok) more
