use Rattle.std.proofs.Common.{◌≡◌, ◌+◌, subst, sym, ◌∙◌}
use Rattle.line_check.{specs.Inequalities.module_number, specs.Testing.weighed, specs.inner.Dividing.{AreDividedCoefs, AreLinkCoefs}, proofs.DividedCoefs.{link_more, number_at}}
use Rattle.line_check.proofs.divided_line.all_coefs.Goals as goal

pub loop-e-preserved : goal.loop-e-preserved
loop-e-preserved c =
    let links = c.args.links.now in
    let terms = weighed c.args.tested.now c.args.terms.now in
    let number : module_number links c.loop-e.e ≡ c.len-modules.result =
    number_at links c.loop-e.e c.index-links-e.result c.loop-e-test.true ∙ sym c.len-modules.ensures in
    let row = rw c.in-Some.is at c.in_ok-link.ensures in
    let own : AreLinkCoefs terms c.args.need c.args.divisor c.loop-e.e (module_number links c.loop-e.e) c.in-Some.link =
    subst (λ n. AreLinkCoefs terms c.args.need c.args.divisor c.loop-e.e n c.in-Some.link) (sym number) row in
    let more = link_more links terms c.args.need c.args.divisor c.loop-e.e c.in-Some.link c.loop-e.coefs c.loop-e.invariant own in
    subst (λ coefs. AreDividedCoefs links terms c.args.need c.args.divisor (c.loop-e.e + 1) coefs) (sym c.in_ok-push-in-Some.ensures.ok) more
