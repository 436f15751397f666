-- a plan that is tight by the unit pairs of its links is tight by what its share gives and costs
use Rattle.std.proofs.Common.{◌≡◌, ℕ, zero, suc, ◌+◌, ◌*◌, ◌⊎◌, inl, inr, List, [], ◌∷◌, Some, get_or, length, map, slice_get, slice_index, sum_by, zip, refl, ap, ◌∙◌, arith, ⊎_elim}
use Rattle.net_core.proofs.Library.{length-map, sum_by-cons, slice_get-get_or, length-zip}
use Rattle.module_prices.specs.declared.cheapest.UnitPair.{UnitPair}
use Rattle.plan_terms.specs.Terms.{Link, Module, Routing, Case, IsUnitPair}
use Rattle.plan_types.{specs.declared.plan.Plan.Plan, specs.declared.quality.Fractional.Fractional, specs.declared.quality.Share.Share}
use Rattle.master_law.specs.Terms.{AreUnitPairs, IsPairOfLink, share_capacities, share_cost}
use Rattle.plan_law.specs.TightPlans.{AreCarriedByShare, IsTightPlan}
use Rattle.plan_checker.specs.Terms.{AreCarried, GivesShare, IsShareOf, IsTight}

-- what each link's units cost
abbrev costs_of : List UnitPair → List ℕ → List ℕ
costs_of pairs units = map (λ p. p.0.cost * p.1) (zip pairs units)

sum_of_terms : {X : Type 0} (f : X → ℕ) (xs : List X) → sum_by f xs ≡ sum_by (λ c. c) (map f xs)
sum_of_terms f [] = refl
sum_of_terms f (x ∷ xs) = omega (arith, sum_by-cons f x xs, sum_by-cons (λ c. c) (f x) (map f xs), sum_of_terms f xs)

-- capacity and cost of a unit pair
abbrev numbers : UnitPair → ℕ × ℕ
numbers pair = (pair.capacity, pair.cost)

pair_of : (modules : List Module) (pair : UnitPair) → IsPairOfLink modules pair → IsUnitPair modules pair.capacity pair.cost ⊎ ((modules ≡ []) × (numbers pair ≡ (0, 0)))
pair_of modules pair is = ⊎_elim
    (λ none. let both : numbers pair ≡ (0, 0) = cc (none.1, none.2) in inr (none.0, both))
    (λ some. inl some)
    is

-- what the units of one link give and cost
share_at : (scale : ℕ) (links : List Link) (pairs : List UnitPair) (units : List ℕ) → length pairs ≡ length links → length units ≡ length links
    → ((e : ℕ) (l : Link) (p : UnitPair) → slice_get links e ≡ Some l → slice_get pairs e ≡ Some p → IsPairOfLink l.modules p)
    → (e : ℕ) (l : Link) → slice_get links e ≡ Some l
    → IsShareOf l scale (slice_index units e) (slice_index (share_capacities links pairs (record { scale = scale; units = units })) e) (slice_index (costs_of pairs units) e)
share_at scale [] pairs units cp cu each e l at = absurd (cc at)
share_at scale (x ∷ xs) [] units cp cu each e l at = absurd (omega (arith, cp))
share_at scale (x ∷ xs) (p ∷ ps) [] cp cu each e l at = absurd (omega (arith, cu))
share_at scale (x ∷ xs) (p ∷ ps) (u ∷ us) cp cu each zero l at =
    let same : x ≡ l = cc at in
    record {
      pair = numbers p;
      is_pair = pair_of l.modules p (each 0 l p at refl);
      gives = ap (λ (k : Link). k.fixed * scale + p.capacity * u) same;
      paid = refl;
    }
share_at scale (x ∷ xs) (p ∷ ps) (u ∷ us) cp cu each (suc e) l at =
    share_at scale xs ps us (omega (arith, cp)) (omega (arith, cu)) (λ k. each (suc k)) e l at

module _ (links : List Link) (pairs : List UnitPair) (share : Share) (units : AreUnitPairs links pairs) (long : length share.units ≡ length links) where
  share_gives : GivesShare links share (share_capacities links pairs share) (share_cost pairs share)
  share_gives = record {
    costs = costs_of pairs share.units;
    nums_count = length-map (zip links (zip pairs share.units)) (λ p. p.0.fixed * share.scale + p.1.0.capacity * p.1.1)
        ∙ omega (arith, units.count, long, length-zip pairs share.units, length-zip links (zip pairs share.units));
    costs_count = length-map (zip pairs share.units) (λ p. p.0.cost * p.1) ∙ omega (arith, units.count, long, length-zip pairs share.units);
    each = share_at share.scale links pairs share.units units.count long units.each;
    sum = sum_of_terms (λ p. p.0.cost * p.1) (zip pairs share.units);
  }

share_carried : (p : Case) (pairs : List UnitPair) (f : Fractional) → AreCarriedByShare p pairs f → AreCarried p f.share.scale (share_capacities p.links pairs f.share) f.routings
share_carried p pairs f carried s listed =
    let at = slice_get-get_or f.routings s no_routing (omega (arith, listed, carried.states)) in
    record { item = get_or f.routings s no_routing; at = at; holds = carried.each s (get_or f.routings s no_routing) at }
  where
    no_routing : Routing
    no_routing = record { den = 0; flows = [] }

pub tight_by_share : (p : Case) (pairs : List UnitPair) (plan : Plan) (f : Fractional) → IsTightPlan p pairs plan f → IsTight p plan f
tight_by_share p pairs plan f tight = record {
  nums = share_capacities p.links pairs f.share;
  cost = share_cost pairs f.share;
  given = share_gives p.links pairs f.share tight.units tight.share.long;
  raw = tight.raw;
  carried = share_carried p pairs f tight.carried;
}
