-- the opening cuts, from what the state keeps of two lists of lengths
use Rattle.std.proofs.Common.{◌≡◌, ℕ, Bool, true, false, List, [], ◌∷◌, Option, None, Some, All, cond, length, map, refl, replicate, ◌==◌}
use Rattle.net_core.proofs.Library.{All-cons, All-nil, pointwise}
use Rattle.plan_terms.specs.Terms.{Graph, AreOpening, MayKeep, each_once, ArePriceLengths}
use Rattle.metric_cut.{specs.Cuts.{IsCutOf, MayKeepCut}, specs.declared.cut.Cut.Cut, specs.inner.KeptCuts.each_cut_once}

-- the lengths of a cut
lengths_of : Option Cut → Option (List ℕ)
lengths_of None = None
lengths_of (Some cut) = Some cut.lengths

module _ (g : Graph) where
  may_keep : (lengths : List ℕ) (cut : Option Cut) → MayKeepCut g lengths cut → MayKeep g lengths (lengths_of cut)
  unfolding lengths_of
  may_keep lengths None zero = zero
  may_keep lengths (Some cut) kept = kept.0

  two_or_one : (b : Bool) (unit price : Cut) → map (λ (c : Cut). c.lengths) (cond b (unit ∷ []) (unit ∷ price ∷ [])) ≡ cond b (unit.lengths ∷ []) (unit.lengths ∷ price.lengths ∷ [])
  two_or_one true unit price = refl
  two_or_one false unit price = refl

  lengths_once : (unit price : Option Cut) → map (λ (c : Cut). c.lengths) (each_cut_once unit price) ≡ each_once (lengths_of unit) (lengths_of price)
  unfolding lengths_of
  lengths_once None None = refl
  lengths_once None (Some price) = refl
  lengths_once (Some unit) None = refl
  lengths_once (Some unit) (Some price) = two_or_one (pointwise ◌==◌ unit.lengths price.lengths) unit price

  one_cut : (cut : Cut) → IsCutOf g cut → All (IsCutOf g) (cut ∷ [])
  one_cut cut is = All-cons (IsCutOf g) cut [] is (All-nil (IsCutOf g))

  two_cuts : (b : Bool) (unit price : Cut) → IsCutOf g unit → IsCutOf g price → All (IsCutOf g) (cond b (unit ∷ []) (unit ∷ price ∷ []))
  two_cuts true unit price first second = one_cut unit first
  two_cuts false unit price first second = All-cons (IsCutOf g) unit (price ∷ []) first (one_cut price second)

  -- each of them is a cut of the state
  pub opening_cuts : (units prices : List ℕ) (unit price : Option Cut) → MayKeepCut g units unit → MayKeepCut g prices price → All (IsCutOf g) (each_cut_once unit price)
  opening_cuts units prices None None first second = All-nil (IsCutOf g)
  opening_cuts units prices None (Some price) first second = one_cut price second.1
  opening_cuts units prices (Some unit) None first second = one_cut unit first.1
  opening_cuts units prices (Some unit) (Some price) first second = two_cuts (pointwise ◌==◌ unit.lengths price.lengths) unit price first.1 second.1

  -- and their lengths are those of the opening cuts
  pub are_opening : (prices : List ℕ) (unit price : Option Cut) → ArePriceLengths g.links prices → MayKeepCut g (replicate (length g.links) 1) unit → MayKeepCut g prices price → AreOpening g (map (λ c. c.lengths) (each_cut_once unit price))
  are_opening prices unit price priced first second = record {
    prices = prices;
    priced = priced;
    unit = lengths_of unit;
    price = lengths_of price;
    unit_kept = may_keep (replicate (length g.links) 1) unit first;
    price_kept = may_keep prices price second;
    are = lengths_once unit price;
  }
