use Rattle.std.proofs.Common.{ℕ, ◌*◌, ◌^◌, get_or, arith}
use Rattle.plan_terms.{specs.Terms.Link, proofs.Lemmas.product_below}
use Rattle.metric_cut.proofs.Pairs.{sum_more}
use Rattle.metric_cut.proofs.own_bounds.fixed_along.Goals as goal

pub loop-e-preserved : goal.loop-e-preserved
loop-e-preserved c =
    let lengths = c.args.lengths.now in
    let links = c.args.links.now in
    let e = c.loop-e.e in
    let l = c.index-links-e.result in
    let product = product_below (get_or lengths e 0) (get_or links e l).fixed (2 ^ 32) (2 ^ 40) (omega (arith, c.type_inv.lengths e)) (omega arith) (c.requires.sound e l c.loop-e-test.true) in
    let more = sum_more (λ (p : ℕ × Link). p.0 * p.1.fixed) e lengths links 0 l (omega arith) (omega arith) in
    (omega (arith, c.loop-e.invariant.0, more), omega (arith, product, c.loop-e.invariant.1))
