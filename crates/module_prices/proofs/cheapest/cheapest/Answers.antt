use Rattle.std.proofs.Common.{◌+◌, arith, subst, sym}
use Rattle.plan_terms.specs.Terms.{Module}
use Rattle.module_prices.{proofs.UnitCosts.{IsCheapestSoFar, cheapest_moves, cheapest_stays}, proofs.cheapest.cheapest.Goals.{then-crossed, else-crossed}}
use Rattle.module_prices.proofs.cheapest.cheapest.Goals as goal

abbrev nothing : Module
nothing = record { capacity = 0; cost = 0 }

pub loop-m-preserved : goal.loop-m-preserved
loop-m-preserved c =
    let ms = c.args.modules.now in
    let n = c.loop-m.m-index in
    let m = c.loop-m.cheapest in
    elim c.if-crossed.branch [
      | then-crossed w ↦ subst (IsCheapestSoFar ms (n + 1)) (sym w.cheapest-is) (cheapest_moves ms n m nothing c.loop-m-test.true (omega (arith, w.if-crossed)) c.loop-m.invariant)
      | else-crossed w ↦ subst (IsCheapestSoFar ms (n + 1)) (sym w.cheapest-is) (cheapest_stays ms n m nothing c.loop-m-test.true (omega (arith, w.if-crossed)) c.loop-m.invariant)
    ]
