-- right sides that follow an edit
use Rattle.std.proofs.Common.{◌≡◌, ◌∙◌, ℕ, ◌+◌, ◌*◌, ◌≤◌, ◌<◌, ◌^◌, List, [], ◌∷◌, ◌++◌, All, Option, None, Some, length, map, get_or, take, drop, slice_get, slice_index_or, sum_by, unwrap_or, zip, suc, refl, sym, ap, subst, arith, mul-le-mul_left, get_or-append-add, get_or-drop, length-take-le}
use Rattle.net_core.proofs.Library.{∥∥₁_elim, props, get_or-map, length-map, same_lists, All-map, sum_by-cons, get_or_from_slice_get, slice_get_within}
use Rattle.plan_terms.{specs.Terms.{Demand, AreDemands, IsDemand, Graph, Joins, IsRight, total_need, without, IsDistance}, proofs.Lemmas.distance_one}
use Rattle.short_paths.{specs.declared.distance_table.DistanceTable.DistanceTable, specs.DistanceTables.{AreAllDistances, distance_at}, proofs.Lows.table_low}
use Rattle.metric_cut.{specs.declared.cut.Cut.Cut, specs.Cuts.IsCutOf, specs.inner.Rights.part_of, proofs.Sides.sum_is_right}
use Rattle.cut_pool.{specs.declared.pooled_cut.PooledCut.PooledCut, specs.declared.shares.NeedChange.NeedChange, specs.inner.Pooling.{CanFollow, IsSomeCut, StandsAmong, StandsAt, followed}, specs.inner.Shares.{IsShareIn, asked_by}, proofs.Sides.IsAtDemands}

-- ---- a right side is the sum of what the demands ask for by the kept distances

zip_parts : (table : DistanceTable) (demands : List Demand) (far : List (Option ℕ)) → length far ≡ length demands
    → ((k : ℕ) (d : Demand) → slice_get demands k ≡ Some d → slice_index_or far k None ≡ distance_at table d.from.0 d.to.0)
    → sum_by (λ p. p.0.need * unwrap_or p.1 0) (zip demands far) ≡ sum_by (part_of table) demands
zip_parts table [] far count each = refl
zip_parts table (d ∷ ds) [] count each = absurd (omega (arith, count))
zip_parts table (d ∷ ds) (o ∷ os) count each = omega (
  arith,
  sum_by-cons (λ (p : Demand × Option ℕ). p.0.need * unwrap_or p.1 0) (d, o) (zip ds os),
  sum_by-cons (part_of table) d ds,
  ap (λ x. d.need * unwrap_or x 0) (each 0 d refl),
  zip_parts table ds os (omega (arith, count)) (λ k e at. each (suc k) e at),
)

right_sum : (joins : ℕ → ℕ → ℕ → Type 0) (lengths : List ℕ) (n : ℕ) (table : DistanceTable) (demands : List Demand) (right : ℕ)
    → AreAllDistances joins lengths n table → All (IsDemand n) demands → IsRight joins lengths demands right → right ≡ sum_by (part_of table) demands
right_sum joins lengths n table demands right distances known is = is.sum ∙ zip_parts table demands is.far is.count (λ k d at.
    let demand : IsDemand n d = subst (IsDemand n) (get_or_from_slice_get demands k d d at) (known k d (slice_get_within demands k d at)) in
    distance_one joins lengths d.from.0 d.to.0 _ _ (is.each k d at) (distances.each d.from.0 d.to.0 demand.from_known demand.to_known))

-- the distance that a cut answers is the one that it keeps
pub kept_distance : (cut : Cut) → IsSomeCut cut → (a b : ℕ) → a < cut.table.nodes → b < cut.table.nodes → (found : Option ℕ)
    → ((g : Graph) → IsCutOf g cut → IsDistance (Joins g) cut.lengths a b found) → unwrap_or found 0 ≡ unwrap_or (distance_at cut.table a b) 0
kept_distance cut some a b first second found is = ∥∥₁_elim some (hlevel props) (λ known.
    let of = known.1 in
    let each = of.distances.each a b (omega (arith, first, of.distances.count)) (omega (arith, second, of.distances.count)) in
    ap (λ o. unwrap_or o 0) (distance_one (Joins known.0) cut.lengths a b found (distance_at cut.table a b) (is known.0 of) each))

-- ---- and it is below 2^84

part_low : (table : DistanceTable) (d : Demand) → part_of table d ≤ d.need * 2 ^ 39
part_low table d = mul-le-mul_left d.need (table_low table d.from.0 d.to.0)

sum_low : (table : DistanceTable) (demands : List Demand) → sum_by (part_of table) demands ≤ total_need demands * 2 ^ 39
sum_low table [] = omega arith
sum_low table (d ∷ ds) = omega (arith, sum_by-cons (part_of table) d ds, sum_by-cons (λ (x : Demand). x.need) d ds, part_low table d, sum_low table ds)

-- ---- one right side

-- where the share is unchanged, nothing follows
pub followed_same : (change : NeedChange) (pool : List PooledCut) → change.before ≡ change.after → All (CanFollow change) pool → pool ≡ map (followed change) pool
followed_same change pool same can = same_lists pool (map (followed change) pool) (sym (length-map pool (followed change))) (λ k d lt.
    let c = get_or pool k d in
    let back : c.right ≡ (followed change c).right = omega (arith, (can k d lt).part, ap (asked_by c.cut.table) same) in
    ap (λ right. record { cut = c.cut; right = right }) back ∙ sym (get_or-map (followed change) pool k d d lt))

-- and is that at the demands after the change, which leaves those of other names
pub stands_after : (n : ℕ) (old new : List Demand) (name : List ℕ) (change : NeedChange) (c : PooledCut) → StandsAt n old c → IsShareIn name old change.before → IsShareIn name new change.after
    → without name new ≡ without name old → total_need new < 2 ^ 44 → StandsAt n new (followed change c)
stands_after n old new name change c at before after others total =
    let table = c.cut.table in
    let right : (followed change c).right ≡ sum_by (part_of table) new =
    omega (arith, at.right, before table, after table, ap (sum_by (part_of table)) others) in
    record {
      cut = at.cut;
      nodes = at.nodes;
      right = right;
      low = omega (arith, right, sum_low table new, total);
    }

-- the next right side in a pool of which some have followed is the old one
pub next_right : {X : Type 0} (f : X → X) (xs ys : List X) (k : ℕ) (d : X) → k < length xs → ys ≡ map f (take k xs) ++ drop k xs → get_or ys k d ≡ get_or xs k d
next_right f xs ys k d lt is =
    let front = map f (take k xs) in
    let count : length front ≡ k = length-map (take k xs) f ∙ length-take-le k xs (omega (arith, lt)) in
    ap (λ zs. get_or zs k d) is
    ∙ (ap (λ n. get_or (front ++ drop k xs) n d) (let at : k ≡ length front + 0 = omega (arith, count) in at)
    ∙ (get_or-append-add front (drop k xs) 0 d
    ∙ (get_or-drop k xs 0 d ∙ ap (λ n. get_or xs n d) (let at : k + 0 ≡ k = omega arith in at))))

-- each right side of a pool is that at the demands after it has followed
pub all_after : (n : ℕ) (old new : List Demand) (name : List ℕ) (change : NeedChange) (pool : List PooledCut) → All (StandsAt n old) pool → IsShareIn name old change.before → IsShareIn name new change.after
    → without name new ≡ without name old → total_need new < 2 ^ 44 → All (StandsAt n new) (map (followed change) pool)
all_after n old new name change pool at before after others total =
    All-map (StandsAt n new) (followed change) pool (λ k d lt. stands_after n old new name change (get_or pool k d) (at k d lt) before after others total)

pub cuts_same : (change : NeedChange) (pool : List PooledCut) → map (λ c. c.cut) (map (followed change) pool) ≡ map (λ c. c.cut) pool
cuts_same change [] = refl
cuts_same change (c ∷ pool) = ap (λ (cuts : List Cut). c.cut ∷ cuts) (cuts_same change pool)

-- ---- what a board tells of its cuts, and what it is told again

-- a pooled cut with its right side at the demands
pub stands_now : (g : Graph) (n : ℕ) (demands : List Demand) (c : PooledCut) → IsCutOf g c.cut → length g.nodes ≡ n → AreDemands n demands → IsRight (Joins g) c.cut.lengths demands c.right → c.right < 2 ^ 84 → StandsAt n demands c
stands_now g n demands c of nodes are right low = record {
  cut = ∣ (g, of) ∣₁;
  nodes = of.distances.count ∙ nodes;
  right = right_sum (Joins g) c.cut.lengths (length g.nodes) c.cut.table demands c.right of.distances (subst (λ m. All (IsDemand m) demands) (sym nodes) are.each) right;
  low = low;
}

pub at_demands : (n : ℕ) (demands : List Demand) (c : PooledCut) → AreDemands n demands → StandsAt n demands c → IsAtDemands demands c
at_demands n demands c are at = record {
  right_is = λ g of. sum_is_right (Joins g) c.cut.lengths (length g.nodes) c.cut.table demands c.right of.distances (subst (λ m. All (IsDemand m) demands) (sym at.nodes) are.each) at.right;
  low = at.low;
}

-- ---- right sides that are summed anew

pub stands_among : (n : ℕ) (demands : List Demand) (c : PooledCut) → AreDemands n demands → StandsAt n demands c → StandsAmong demands c
stands_among n demands c are at = (subst (λ m. AreDemands m demands) (sym at.nodes) are, subst (λ m. StandsAt m demands c) (sym at.nodes) at)

-- such a right side is the one that the pooled cut has
pub summed_anew : (demands : List Demand) (c : PooledCut) (right : ℕ) → StandsAmong demands c → ((g : Graph) → IsCutOf g c.cut → IsRight (Joins g) c.cut.lengths demands right) → right ≡ c.right
summed_anew demands c right stands is = ∥∥₁_elim stands.1.cut (hlevel props) (λ known.
    let of = known.1 in
    right_sum (Joins known.0) c.cut.lengths (length known.0.nodes) c.cut.table demands right of.distances (subst (λ m. All (IsDemand m) demands) of.distances.count stands.0.each) (is known.0 of)
    ∙ sym stands.1.right)
