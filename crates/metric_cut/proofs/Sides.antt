-- right sides by a table of distances
use Rattle.std.proofs.Common.{◌≡◌, ℕ, ◌*◌, ◌<◌, List, [], ◌∷◌, Option, None, All, length, map, sum_by, zip, unwrap_or, get_or, slice_index_or, refl, sym, ap, ◌∙◌, subst, arith}
use Rattle.net_core.proofs.Library.{get_or-map, length-map, sum_by-cons, get_or_from_slice_get, slice_get_within}
use Rattle.plan_terms.specs.Terms.{IsDemand, Demand, IsRight, IsDistance}
use Rattle.short_paths.{specs.DistanceTables.{AreAllDistances, distance_at}, specs.declared.distance_table.DistanceTable.DistanceTable}
use Rattle.metric_cut.specs.inner.Rights.{part_of}

-- the distance of a demand's ends
abbrev far_of : DistanceTable → Demand → Option ℕ
far_of table d = distance_at table d.from.0 d.to.0

-- the parts, with the distances in a list of their own
parts_sum : (table : DistanceTable) (demands : List Demand) → sum_by (part_of table) demands ≡ sum_by (λ p. p.0.need * unwrap_or p.1 0) (zip demands (map (far_of table) demands))
parts_sum table [] = refl
parts_sum table (d ∷ ds) = omega (
  arith,
  sum_by-cons (part_of table) d ds,
  sum_by-cons (λ (p : Demand × Option ℕ). p.0.need * unwrap_or p.1 0) (d, far_of table d) (zip ds (map (far_of table) ds)),
  parts_sum table ds,
)

-- the sum of the parts is the right side
pub sum_is_right : (joins : ℕ → ℕ → ℕ → Type 0) (lengths : List ℕ) (n : ℕ) (table : DistanceTable) (demands : List Demand) (right : ℕ) → AreAllDistances joins lengths n table → All (IsDemand table.nodes) demands → right ≡ sum_by (part_of table) demands → IsRight joins lengths demands right
sum_is_right joins lengths n table demands right distances known sum = record {
  far = map (far_of table) demands;
  count = length-map demands (far_of table);
  each = λ k d at.
      let inside : k < length demands = slice_get_within demands k d at in
      let is : get_or demands k d ≡ d = get_or_from_slice_get demands k d d at in
      let demand : IsDemand table.nodes d = subst (IsDemand table.nodes) is (known k d inside) in
      let far : slice_index_or (map (far_of table) demands) k None ≡ far_of table d = get_or-map (far_of table) demands k d None inside ∙ ap (far_of table) is in
      subst (IsDistance joins lengths d.from.0 d.to.0) (sym far)
      (distances.each d.from.0 d.to.0 (omega (arith, demand.from_known, distances.count)) (omega (arith, demand.to_known, distances.count)));
  sum = sum ∙ parts_sum table demands;
}
