-- demands without a distance between their ends are those that a state separates
use Rattle.std.proofs.Common.{◌≡◌, ℕ, ◌<◌, List, Option, None, Some, get_or, length, refl, slice_get, subst, sym}
use Rattle.net_core.proofs.Library.{slice_get_read}
use Rattle.plan_terms.specs.Terms.{AreApart, AreDemands, Case, Demand, IsDemand, IsDistance, Joins, Separates, graph_in}
use Rattle.short_paths.{specs.DistanceTables.distance_at, specs.declared.distance_table.DistanceTable.DistanceTable}
use Rattle.failure_texts.specs.inner.SeparationsSoFar.{IsTableOf}

-- nodes that are apart have no distance
apart_none : (joins : ℕ → ℕ → ℕ → Type 0) (lengths : List ℕ) (a b : ℕ) (o : Option ℕ) → IsDistance joins lengths a b o → AreApart joins a b → o ≡ None
apart_none joins lengths a b None is apart = refl
apart_none joins lengths a b (Some d) is apart = absurd (apart is.0.0 is.0.1)

module _ (p : Case) (s k : ℕ) (table : DistanceTable) (is : IsTableOf p s table) (are : AreDemands (length p.nodes) p.demands)
    (d : Demand) (lt : k < length p.demands) (here : d ≡ get_or p.demands k d) where
  at : slice_get p.demands k ≡ Some d
  at = slice_get_read p.demands (length p.demands) k d refl lt here

  ends : IsDemand (length p.nodes) d
  ends = subst (IsDemand (length p.nodes)) (sym here) (are.each k d lt)

  distance_is : IsDistance (Joins (graph_in p s)) is.lengths d.from.0 d.to.0 (distance_at table d.from.0 d.to.0)
  distance_is = is.distances.each d.from.0 d.to.0 ends.from_known ends.to_known

  pub far_separates : (0 < d.need) × (distance_at table d.from.0 d.to.0 ≡ None) → Separates p s k
  far_separates far = record {
    demand = d;
    at = at;
    needed = far.0;
    apart = subst (λ (o : Option ℕ). IsDistance (Joins (graph_in p s)) is.lengths d.from.0 d.to.0 o) far.1 distance_is;
  }

  pub separates_far : Separates p s k → (0 < d.need) × (distance_at table d.from.0 d.to.0 ≡ None)
  separates_far sep =
      let same : sep.demand ≡ d = cc (sep.at, at) in
      let there : (0 < d.need) × AreApart (Joins (graph_in p s)) d.from.0 d.to.0 =
      subst (λ (x : Demand). (0 < x.need) × AreApart (Joins (graph_in p s)) x.from.0 x.to.0) same (sep.needed, sep.apart) in
      (there.0, apart_none (Joins (graph_in p s)) is.lengths d.from.0 d.to.0 (distance_at table d.from.0 d.to.0) distance_is there.1)
