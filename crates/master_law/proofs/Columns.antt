-- columns of cuts, and sums over the links
use Rattle.std.proofs.Common.{◌≡◌, ℕ, ◌*◌, ◌<◌, ◌≤◌, List, [], All, Contains, Some, length, slice_get, slice_index, get_or, refl, sym, ap, ◌∙◌, arith, subst, ⊎_elim, mul-le-mul_left}
use Rattle.net_core.proofs.Library.{get_or-map, All-contains, All-get_or, le_of_mul-le-mul_left, slice_get-get_or, slice_get_within, get_or_from_slice_get}
use Rattle.module_prices.specs.declared.cheapest.UnitPair.{UnitPair}
use Rattle.plan_terms.specs.Terms.{MasterColumn, Metric, Link, CutLine, IsModule}
use Rattle.simplex_law.specs.Terms.{ColumnOf}
use Rattle.master_law.{specs.MasterPrograms.{cut_gain, cut_entry, unit_capacities, unit_costs, IsCutColumn}, specs.UnitPairs.{AreUnitPairs, IsPairOfLink}}

-- the column of a cut
abbrev pub column_of : List Link → List UnitPair → CutLine → ColumnOf MasterColumn
column_of links pairs cut = record { name = Metric cut.state cut.lengths; gain = cut_gain links cut; entry = cut_entry pairs cut }

pub is_column_of : (links : List Link) (pairs : List UnitPair) (cuts : List CutLine) (cut : CutLine) → Contains cuts cut → IsCutColumn links pairs cuts (column_of links pairs cut)
is_column_of links pairs cuts cut held = record { cut = cut; listed = held; named = refl; gain = refl; entry = λ e l. refl }

-- the unit pair of link e
pub record HasUnitPair (pairs : List UnitPair) (e : ℕ) (l : Link) : Type 0 where
  pub modules : All IsModule l.modules
  pub pair : UnitPair
  pub is_pair : IsPairOfLink l.modules pair
  pub capacity : slice_index (unit_capacities pairs) e ≡ pair.capacity
  pub cost : slice_index (unit_costs pairs) e ≡ pair.cost

module _ (links : List Link) (pairs : List UnitPair) (sound : All (λ l. All IsModule l.modules) links) (units : AreUnitPairs links pairs) where
  pub link_at : (e : ℕ) (l : Link) → slice_get links e ≡ Some l → All IsModule l.modules
  link_at e l at = subst (λ (k : Link). All IsModule k.modules) (get_or_from_slice_get links e l l at) (All-get_or (λ (k : Link). All IsModule k.modules) links e l (slice_get_within links e l at) sound)

  pub pair_at : (e : ℕ) (l : Link) → slice_get links e ≡ Some l → HasUnitPair pairs e l
  pair_at e l at =
      let none : UnitPair = record { capacity = 0; cost = 0 } in
      let here : e < length pairs = subst (λ n. e < n) (sym units.count) (slice_get_within links e l at) in
      record {
        modules = link_at e l at;
        pair = get_or pairs e none;
        is_pair = units.each e l (get_or pairs e none) at (slice_get-get_or pairs e none here);
        capacity = get_or-map (λ (q : UnitPair). q.capacity) pairs e none 0 here;
        cost = get_or-map (λ (q : UnitPair). q.cost) pairs e none 0 here;
      }

  pub pair_below : (e : ℕ) → e < length links → (l : Link) × (slice_get links e ≡ Some l) × HasUnitPair pairs e l
  pair_below e l =
      let none : Link = record { name = []; a = record { 0 = 0 }; b = record { 0 = 0 }; fixed = 0; setup = 0; modules = [] } in
      let at = slice_get-get_or links e none l in
      (get_or links e none, at, pair_at e (get_or links e none) at)

-- a unit's price is at most its cost where a cheapest module's is
unit_valid : (x den c k capacity cost : ℕ) → x * capacity ≤ den * cost → cost * c ≡ k * capacity → 0 < capacity → x * c ≤ den * k
unit_valid x den c k capacity cost low same pa =
    let m : c * (x * capacity) ≤ c * (den * cost) = mul-le-mul_left c low in
    let n : capacity * (x * c) ≤ capacity * (den * k) = omega (arith, m, ap (λ s. den * s) same) in
    le_of_mul-le-mul_left n pa

-- where no module's price exceeds its cost, no unit's does
pub unit_at_most : (links : List Link) (pairs : List UnitPair) → All (λ l. All IsModule l.modules) links → AreUnitPairs links pairs → (x : ℕ → ℕ) (den : ℕ)
    → ((e : ℕ) (l : Link) → slice_get links e ≡ Some l → All (λ m. x e * m.capacity ≤ den * m.cost) l.modules)
    → (e : ℕ) → e < length links → x e * slice_index (unit_capacities pairs) e ≤ den * slice_index (unit_costs pairs) e
unit_at_most links pairs sound units x den priced e inside =
    let q = pair_below links pairs sound units e inside in
    let l : Link = q.0 in
    let p : UnitPair = q.2.pair in
    let low : x e * p.capacity ≤ den * p.cost = ⊎_elim
    (λ empty. let z : x e * p.capacity ≡ 0 = ap (λ y. x e * y) empty.1 ∙ omega arith in omega (arith, z))
    (λ some. let cheapest = some.cheapest in
    let pa : 0 < cheapest.capacity = (All-contains IsModule l.modules cheapest q.2.modules some.least.one).carries in
    unit_valid (x e) den p.capacity p.cost cheapest.capacity cheapest.cost (All-contains (λ m. x e * m.capacity ≤ den * m.cost) l.modules cheapest (priced e l q.1) some.least.one) some.lowest.same pa)
    q.2.is_pair in
    omega (arith, low, ap (λ y. x e * y) q.2.capacity, ap (λ y. den * y) q.2.cost)
