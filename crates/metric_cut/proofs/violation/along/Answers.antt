use Rattle.std.proofs.Common.{ℕ, ◌*◌, ◌^◌, get_or, arith}
use Rattle.plan_terms.proofs.Lemmas.{product_below}
use Rattle.metric_cut.proofs.Pairs.{sum_more}
use Rattle.metric_cut.proofs.violation.along.Goals as goal

pub loop-e-preserved : goal.loop-e-preserved
loop-e-preserved c =
    let lengths = c.args.lengths.now in
    let nums = c.args.nums.now in
    let e = c.loop-e.e in
    let product = product_below (get_or lengths e 0) (get_or nums e 0) (2 ^ 32) (2 ^ 62) (omega (arith, c.type_inv.lengths e)) (omega arith) (c.requires.narrow e 0 (omega arith)) in
    let more = sum_more (λ (p : ℕ × ℕ). p.0 * p.1) e lengths nums 0 0 (omega arith) (omega arith) in
    (omega (arith, c.loop-e.invariant.0, more), omega (arith, product, c.loop-e.invariant.1))
