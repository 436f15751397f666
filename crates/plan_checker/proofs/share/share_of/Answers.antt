use Rattle.std.proofs.Common.{◌^◌, inl, inr, refl, subst, sym, ◌∙◌, arith}
use Rattle.plan_terms.{specs.Terms.IsUnitPair, proofs.Lemmas.product_below}
use Rattle.module_prices.proofs.UnitPairs.{pair_small}
use Rattle.plan_checker.proofs.share.share_of.Goals as goal

pub returns-in-Some-clause-value : goal.returns-in-Some-clause-value
returns-in-Some-clause-value c = record {
  pair = (c.in-Some.pair.capacity, c.in-Some.pair.cost);
  is_pair = inl (subst (λ ms. IsUnitPair ms c.in-Some.pair.capacity c.in-Some.pair.cost) c.items.ensures c.in-Some.ensures.pair);
  gives = refl;
  paid = refl;
}

pub returns-in-Some-clause-cost : goal.returns-in-Some-clause-cost
returns-in-Some-clause-cost c =
    let pair = subst (λ ms. IsUnitPair ms c.in-Some.pair.capacity c.in-Some.pair.cost) c.items.ensures c.in-Some.ensures.pair in
    let low = pair_small c.args.l.now.modules c.requires.sound c.in-Some.pair.capacity c.in-Some.pair.cost pair in
    omega (arith, product_below c.in-Some.pair.cost c.args.units (2 ^ 40) (2 ^ 62) low (omega arith) c.requires.units)

pub returns-in-None-clause-value : goal.returns-in-None-clause-value
returns-in-None-clause-value c = record {
  pair = (0, 0);
  is_pair = inr (sym c.items.ensures ∙ c.in-None.ensures.none.0 refl, refl);
  gives = omega arith;
  paid = omega arith;
}
