use Rattle.std.proofs.Common.{ℕ, ◌*◌, ◌^◌, get_or, arith}
use Rattle.module_prices.specs.declared.cheapest.UnitPair.{UnitPair}
use Rattle.plan_terms.proofs.Lemmas.{product_below}
use Rattle.metric_cut.proofs.Pairs.{sum_more}
use Rattle.master_bound.proofs.share.cost_of.Goals as goal

pub loop-e-preserved : goal.loop-e-preserved
loop-e-preserved c =
    let pairs = c.args.pairs.now in
    let units = c.args.units.now in
    let e = c.loop-e.e in
    let none : UnitPair = record { capacity = 0; cost = 0 } in
    let product = product_below (get_or pairs e none).cost (get_or units e 0) (2 ^ 40) (2 ^ 64) (c.requires.small e none c.loop-e-test.true) (omega arith) (omega (arith, c.type_inv.units e)) in
    let more = sum_more (λ (p : UnitPair × ℕ). p.0.cost * p.1) e pairs units none 0 c.loop-e-test.true (omega (arith, c.requires.count, c.loop-e-test.true)) in
    (omega (arith, c.loop-e.invariant.0, more), omega (arith, product, c.loop-e.invariant.1))
