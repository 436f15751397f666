-- routings within lowered counts
use Rattle.std.proofs.Common.{◌≡◌, ℕ, zero, suc, ◌+◌, ◌*◌, ◌^◌, ◌≤◌, ◌<◌, ⊎_elim, List, [], ◌∷◌, Some, length, map, slice_get, slice_index, sum_by, refl, ap, subst, arith, mul-le-mul_right}
use Rattle.net_core.proofs.Library.{recursion_from_All, slice_get_within, sum_by-cons, AllByRecursion, below-first, below-same, sums-equal}
use Rattle.plan_terms.{specs.Terms.{AreCounts, Carries, Demand, Flow, IsFlow, Link, Routing, capacities, load, sent, sum_below, total_need}, proofs.Metric.{all_carried, all_weaker}}
use Rattle.module_choice.proofs.Carrying.{load_all}
use Rattle.tree_boxes.{specs.inner.Lowering.HaveRoomFor, proofs.Lowering.room_at}

-- what all needs sum to, over a denominator
needs_summed : (den : ℕ) (demands : List Demand) → sum_below (length demands) (λ k. slice_index (map (λ d. d.need) demands) k * den) ≡ total_need demands * den
needs_summed den [] = omega arith
needs_summed den (d ∷ ds) =
    omega (
      arith,
      below-first (length ds) (λ k. slice_index (map (λ (x : Demand). x.need) (d ∷ ds)) k * den),
      needs_summed den ds,
      ap (λ s. s * den) (sum_by-cons (λ (x : Demand). x.need) d ds),
    )

record DemandAt (demands : List Demand) (k : ℕ) : Type 0 where
  of : Demand
  at : slice_get demands k ≡ Some of
  need : slice_index (map (λ d. d.need) demands) k ≡ of.need

demand_at : (demands : List Demand) (k : ℕ) → k < length demands → DemandAt demands k
demand_at [] k lt = absurd (omega (arith, lt))
demand_at (d ∷ ds) zero lt = record { of = d; at = refl; need = refl }
demand_at (d ∷ ds) (suc k) lt = let there = demand_at ds k (omega (arith, lt)) in record { of = there.of; at = there.at; need = there.need }

module _ (joins : ℕ → ℕ → ℕ → Type 0) (demands : List Demand) where
  -- all flows of a routing sum to all needs
  flows_summed : (nums : List ℕ) (r : Routing) → Carries joins demands 1 nums r → sum_by (λ f. f.num) r.flows ≡ total_need demands * r.den
  flows_summed nums r carries =
      let inside : AllByRecursion (λ f. f.demand < length demands) r.flows =
      all_weaker (IsFlow joins demands) (λ (f : Flow). f.demand < length demands) r.flows (λ f flow. slice_get_within demands f.demand flow.of flow.at) (recursion_from_All (IsFlow joins demands) r.flows carries.flows) in
      let each : sum_below (length demands) (λ k. 1 * sent r.flows k) ≡ sum_below (length demands) (λ k. slice_index (map (λ d. d.need) demands) k * r.den) =
      below-same (length demands) _ _ (λ k lt.
      let d = demand_at demands k lt in
      let need = d.need in
      let met = carries.met k d.of d.at in
      omega (arith, met, ap (λ n. n * r.den) need)) in
      let ones : sum_by (λ f. f.num * 1) r.flows ≡ sum_by (λ f. f.num) r.flows = sums-equal (λ (f : Flow). f.num * 1) (λ f. f.num) r.flows (λ f. omega arith) in
      omega (arith, all_carried (λ k. 1) (length demands) r.flows inside, each, ones, needs_summed r.den demands)

  -- a routing within the capacities of counts is within those of lowered ones
  pub within_lowered : (links : List Link) (counts lowered : List (List ℕ)) (r : Routing) → total_need demands < 2 ^ 44 → AreCounts links counts → HaveRoomFor links counts lowered
      → Carries joins demands 1 (capacities links counts) r → Carries joins demands 1 (capacities links lowered) r
  within_lowered links counts lowered r low shape have carries = record {
    den = carries.den;
    flows = carries.flows;
    met = carries.met;
    within = λ e. ⊎_elim
        (λ (same : slice_index (capacities links counts) e ≡ slice_index (capacities links lowered) e). subst (λ n. load r.flows e ≤ n * r.den) same (carries.within e))
        (λ (enough : 2 ^ 44 ≤ slice_index (capacities links lowered) e + 1).
        let most : total_need demands * r.den ≤ slice_index (capacities links lowered) e * r.den = mul-le-mul_right r.den (omega (arith, low, enough)) in
        omega (arith, most, load_all r.flows e, flows_summed (capacities links counts) r carries))
        (room_at links counts lowered e shape have);
  }
