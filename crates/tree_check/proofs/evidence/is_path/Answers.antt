use Rattle.std.proofs.Common.{◌<◌, All, length, subst, refl, arith, take_all}
use Rattle.net_core.proofs.Library.{All-more, nat_tests}
use Rattle.plan_terms.specs.Terms.{LinkId}
use Rattle.tree_check.proofs.evidence.is_path.Goals as goal

pub loop-e-preserved : goal.loop-e-preserved
loop-e-preserved c =
    All-more (λ (x : LinkId). x.0 < length c.args.instance.now.net.now.links) c.args.path.now c.loop-e.e-index (record { 0 = 0 }) c.loop-e-test.true c.loop-e.invariant
    (c.if-not-is_link.ensures.0 refl)

pub returns : goal.returns
returns c =
    let known = subst (All (λ (x : LinkId). x.0 < length c.args.instance.now.net.now.links)) (take_all c.loop-e.e-index c.args.path.now c.loop-e-test.false) c.loop-e.invariant in
    (λ some. record { some = grind (arith, nat_tests); known = known }, λ form. let some = form.some in grind (arith, nat_tests))
