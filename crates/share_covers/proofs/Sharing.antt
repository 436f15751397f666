-- the routings of a share, as those of counts that cover it
use Rattle.std.proofs.Common.{◌≡◌, ℕ, ◌+◌, ◌*◌, ◌/◌, ◌^◌, ◌<◌, ◌≤◌, ◌∙◌, cond, eqb, List, [], ◌∷◌, ◌++◌, All, Option, None, Some, get_or, length, map, slice_get, slice_index, take, refl, sym, ap, subst, arith, eq-eqb, mul-le-mul_left}
use Rattle.net_core.proofs.Library.{◌∣◌, ∥∥₁_elim, ∥∥₁_map, props, All-map, dvd-mul_right, dvd_of_mul-dvd-mul_left, eq-one_of_dvd-one, get_or-le-sum_by, get_or_from_slice_get, le_of_dvd, le_of_mul-le-mul_left, length-map, map-append, mul-div_cancel', mul-dvd-mul_left, positive_factors, slice_get-get_or, slice_get_within, take_more}
use Rattle.plan_terms.specs.Terms.{AreDemands, Caps, Carries, Case, Demand, Flow, Graph, IsDemand, Joins, Link, Routing, capacities, graph_in, sent}
use Rattle.route_law.{specs.Terms.{IsLowestRouting, flow_times, over_times}, proofs.Lemmas.carried_lowest}
use Rattle.greedy_router.{specs.Left.IsLeft, specs.declared.greedy_flows.Left.Left}
use Rattle.flow_mending.specs.Terms.{IsCommonDivisor, IsRouted}
use Rattle.module_prices.specs.declared.cheapest.UnitPair.{UnitPair}
use Rattle.plan_types.{specs.declared.quality.Fractional.Fractional, specs.declared.quality.Quality.Quality, specs.declared.quality.Quality.TheVariants.{Tight, Loose}, specs.declared.quality.Share.Share}
use Rattle.master_law.specs.Terms.{AreUnitPairs}
use Rattle.plan_law.{specs.TightPlans.{CoversShare, IsProperShare}, proofs.Covering.covers_carry}
use Rattle.share_covers.{specs.Choices.{CarriesShare, IsQualityOfShare}, specs.InstalledRoutes.installed_caps, specs.inner.SharedRoutes.{CarriesAtWhole, CoversCarriedShare, CoversQuality, IsAtWhole, IsSmallAtWhole, IsStateAnswer, IsWholeAnswer}, proofs.Certain.carries_certain}

-- ---- lowest terms

-- one flow more over a divisor
pub over_next : (divisor : ℕ) (flows over : List Flow) (n : ℕ) (f : Flow) → n < length flows → f ≡ get_or flows n f → divisor ∣ f.num → map (flow_times divisor) over ≡ take n flows
    → map (flow_times divisor) (over ++ record { demand = f.demand; path = f.path; num = f.num / divisor } ∷ []) ≡ take (n + 1) flows
over_next divisor flows over n f lt at divides before =
    let less : Flow = record { demand = f.demand; path = f.path; num = f.num / divisor } in
    let whole : flow_times divisor less ≡ f = ap (λ (n : ℕ). record { demand = f.demand; path = f.path; num = n }) (mul-div_cancel' divisor divides) in
    map-append (flow_times divisor) over (less ∷ [])
    ∙ (ap (λ xs. xs ++ flow_times divisor less ∷ []) before
    ∙ (ap (λ (x : Flow). take n flows ++ x ∷ []) (whole ∙ at)
    ∙ sym (take_more flows n f lt)))

module _ (scale : ℕ) (r : Routing) (common : ℕ) (divides : IsCommonDivisor (r.den * scale) r.flows common) where
  -- over the greatest divisor the routing is in lowest terms
  pub small_at_whole : (most : ℕ) (over : List Flow) → length r.flows ≤ most → r.den * scale / common < 2 ^ 62 → map (flow_times common) over ≡ r.flows
      → IsSmallAtWhole scale most r (record { den = r.den * scale / common; flows = over })
  small_at_whole most over few limit same = record {
    of = record { times = common; positive = divides.positive; same = all_same };
    lowest = lowest;
    few = omega (arith, few, length-map over (flow_times common), ap (λ (fs : List Flow). length fs) same);
    den_limit = limit;
  }
    where
      whole : Routing
      whole = record { den = r.den * scale / common; flows = over }

      den_same : common * (r.den * scale / common) ≡ r.den * scale
      den_same = mul-div_cancel' common divides.of_den

      all_same : over_times common whole ≡ record { den = scale * r.den; flows = r.flows }
      all_same = let den : common * (r.den * scale / common) ≡ scale * r.den = omega (arith, den_same) in cc (den, same)

      one_of : (d : ℕ) → common * d ∣ common → d ≡ 1
      one_of d h = eq-one_of_dvd-one (dvd_of_mul-dvd-mul_left d divides.positive (subst (λ n. common * d ∣ n) (omega arith) h))

      lowest : IsLowestRouting whole
      lowest d of_den of_nums = one_of d (divides.greatest (common * d)
          (subst (λ n. common * d ∣ n) den_same (mul-dvd-mul_left d common of_den))
          (subst (All (λ (f : Flow). common * d ∣ f.num)) same (All-map (λ (f : Flow). common * d ∣ f.num) (flow_times common) over (λ k f lt. mul-dvd-mul_left d common (of_nums k f lt)))))

  -- no other divisor makes the denominator smaller
  pub large_at_whole : 2 ^ 62 ≤ r.den * scale / common → (whole : Routing) → IsAtWhole scale r whole → 2 ^ 62 ≤ whole.den
  large_at_whole large whole of =
      let den : of.times * whole.den ≡ r.den * scale = ap (λ (x : Routing). x.den) of.same ∙ omega arith in
      let flows : map (flow_times of.times) whole.flows ≡ r.flows = ap (λ (x : Routing). x.flows) of.same in
      let divisor : of.times ∣ common = divides.greatest of.times
      (subst (λ n. of.times ∣ n) den (dvd-mul_right of.times whole.den))
      (subst (All (λ (f : Flow). of.times ∣ f.num)) flows (All-map (λ (f : Flow). of.times ∣ f.num) (flow_times of.times) whole.flows (λ k f lt. dvd-mul_right of.times (get_or whole.flows k f).num))) in
      let le : of.times ≤ common = le_of_dvd divides.positive divisor in
      let more : whole.den * of.times ≤ whole.den * common = mul-le-mul_left whole.den le in
      let quotient : common * (r.den * scale / common) ≤ common * whole.den = omega (arith, more, den, mul-div_cancel' common divides.of_den) in
      let least : r.den * scale / common ≤ whole.den = le_of_mul-le-mul_left quotient divides.positive in
      omega (arith, large, least)

-- ---- what the covers carry

-- an item of a list
pub item_at : (xs ys : List Routing) (n : ℕ) (r : Routing) → ys ≡ xs → n < length ys → r ≡ get_or ys n r → slice_get xs n ≡ Some r
item_at xs ys n r same lt is = subst (λ (zs : List Routing). slice_get zs n ≡ Some r) same (subst (λ (x : Routing). slice_get ys n ≡ Some x) (sym is) (slice_get-get_or ys n r lt))

-- links and demands together
pub most_same : (a b : ℕ) (links ls : List Link) (demands : List Demand) → a ≡ length ls → ls ≡ links → b ≡ length demands → a + b ≡ length links + length demands
most_same a b links ls demands first same second = omega (arith, first, ap (λ (l : List Link). length l) same, second)

-- a denominator over the scale is positive, and so is that of the routing
pub den_at_whole : (g : Graph) (demands : List Demand) (caps : Caps) (scale : ℕ) (r : Routing) → CarriesAtWhole g demands caps scale r → 0 < r.den
den_at_whole g demands caps scale r is = let carries = is.carries in (positive_factors scale r.den carries.den).1

module _ (g : Graph) (nodes : ℕ) (demands : List Demand) (sound : AreDemands nodes demands) where
  -- a flow is no more than its demand's need over the denominator
  flow_small : (nums : List ℕ) (r : Routing) → r.den < 2 ^ 62 → Carries (Joins g) demands 1 nums r → All (λ f. f.num < 2 ^ 124) r.flows
  flow_small nums r limit carries k d lt =
      let f = get_or r.flows k d in
      let flow = carries.flows k d lt in
      let own : cond (eqb f.demand f.demand) f.num 0 ≤ sent r.flows f.demand = get_or-le-sum_by (λ (x : Flow). cond (eqb x.demand f.demand) x.num 0) r.flows k d lt in
      let all : cond (eqb f.demand f.demand) f.num 0 ≡ f.num = ap (λ b. cond b f.num 0) (eq-eqb f.demand f.demand refl) in
      let met : sent r.flows f.demand ≡ flow.of.need * 1 * r.den = carries.met f.demand flow.of flow.at in
      let at : get_or demands f.demand flow.of ≡ flow.of = get_or_from_slice_get demands f.demand flow.of flow.of flow.at in
      let is : IsDemand nodes flow.of = subst (IsDemand nodes) at (sound.each f.demand flow.of (slice_get_within demands f.demand flow.of flow.at)) in
      let most : flow.of.need * r.den ≤ flow.of.need * 2 ^ 62 = mul-le-mul_left flow.of.need (omega (arith, limit)) in
      omega (arith, own, all, met, most, is.need)

  -- a small routing in lowest terms is within the limits
  small_routed : (caps : Caps) (r : Routing) → caps.scale ≡ 1 → Carries (Joins g) demands 1 caps.nums r → IsLowestRouting r → length r.flows ≤ length g.links + length demands → r.den < 2 ^ 62
      → IsRouted g demands caps r
  small_routed caps r one carries lowest few limit = record {
    carries = subst (λ n. Carries (Joins g) demands n caps.nums r) (sym one) carries;
    lowest = lowest;
    few = few;
    den_limit = limit;
    nums_limit = flow_small caps.nums r limit carries;
  }

  -- the share's routing in lowest terms
  shared_routed : (caps : Caps) (scale : ℕ) (shared whole : Routing) → CarriesAtWhole g demands caps scale shared → IsSmallAtWhole scale (length g.links + length demands) shared whole
      → IsRouted g demands caps whole
  shared_routed caps scale shared whole at small =
      small_routed caps whole at.scale_one
      (carried_lowest (Joins g) demands small.of.times 1 caps.nums whole small.of.positive (subst (Carries (Joins g) demands 1 caps.nums) (sym small.of.same) at.carries))
      small.lowest small.few small.den_limit

  -- what is said of the share's routing, of the state's
  pub shared_answer : (caps : Caps) (scale : ℕ) (shared : Routing) → CarriesAtWhole g demands caps scale shared → (o : Option Routing) → IsWholeAnswer scale (length g.links + length demands) shared o
      → IsStateAnswer g demands caps scale shared o
  shared_answer caps scale shared at (Some whole) small = shared_routed caps scale shared whole at small
  shared_answer caps scale shared at None large = large

  -- a greedy routing that leaves nothing
  pub left_routed : (caps : Caps) (left : Left) → caps.scale ≡ 1 → length caps.nums ≡ length g.links → IsLeft (Joins g) demands caps.scale caps.nums left → All (λ r. r ≡ 0) left.rest
      → IsRouted g demands caps left.routing
  left_routed caps left one count is whole = small_routed caps left.routing one
      (record {
        den = omega (arith, is.whole);
        flows = is.flows;
        met = λ k d at.
            let none = whole k 0 (subst (λ n. k < n) (sym is.count) (slice_get_within demands k d at)) in
            omega (arith, is.met k d at, none, ap (λ x. d.need * 1 * x) is.whole, ap (λ x. d.need * x) one);
        within = λ e. omega (arith, is.within e, ap (λ x. slice_index caps.nums e * x) is.whole);
      })
      (λ d of_den of_nums. eq-one_of_dvd-one (subst (λ n. d ∣ n) is.whole of_den))
      (omega (arith, is.few, count))
      (omega (arith, is.whole))

-- the capacities of counts
pub caps_same : (links : List Link) (counts : List (List ℕ)) (caps : Caps) → caps.scale ≡ 1 → caps.nums ≡ capacities links counts → caps ≡ installed_caps links counts
caps_same links counts caps one same =
    let first : caps ≡ record { scale = 1; nums = caps.nums } = ap (λ (s : ℕ). record { scale = s; nums = caps.nums }) one in
    let second : record { scale = 1; nums = caps.nums } ≡ installed_caps links counts = ap (λ (ns : List ℕ). record { scale = 1; nums = ns }) same in
    first ∙ second

module _ (p : Case) (demands : AreDemands (length p.nodes) p.demands) (fractional : Fractional) (counts : List (List ℕ)) (told : ∥ CoversCarriedShare p fractional counts ∥₁) where
  pub scale_told : 0 < fractional.share.scale
  scale_told = ∥∥₁_elim told (hlevel props) (λ (is : CoversCarriedShare p fractional counts). is.carries.proper.positive)

  pub states_told : length fractional.routings ≡ length p.listed + 1
  states_told = ∥∥₁_elim told (hlevel props) (λ (is : CoversCarriedShare p fractional counts). is.carries.carried.states)

  -- the counts carry each routing of the share over its scale
  pub carried_told : (s : ℕ) (r : Routing) (caps : Caps) → slice_get fractional.routings s ≡ Some r → caps ≡ installed_caps p.links counts
      → CarriesAtWhole (graph_in p s) p.demands caps fractional.share.scale r
  carried_told s r caps at same = record {
    scale_one = ap (λ (c : Caps). c.scale) same;
    carries = subst (λ (ns : List ℕ). Carries (Joins (graph_in p s)) p.demands 1 ns (record { den = fractional.share.scale * r.den; flows = r.flows })) (sym (ap (λ (c : Caps). c.nums) same))
        (carries_certain (graph_in p s) p.demands 1 (capacities p.links counts) (record { den = fractional.share.scale * r.den; flows = r.flows })
        (∥∥₁_map told (λ (is : CoversCarriedShare p fractional counts).
        covers_carry p is.carries.pairs fractional.share counts s r is.carries.units demands is.carries.proper (is.covers is.carries.pairs is.carries.units) (is.carries.carried.each s r at))));
  }

-- a quality by a share is one by the counts that cover it
pub covered_quality : (p : Case) (share : Share) (counts : List (List ℕ)) → ((pairs : List UnitPair) → AreUnitPairs p.links pairs → CoversShare p.links pairs share counts)
    → (q : Quality) → ∥ IsQualityOfShare p share q ∥₁ → ∥ CoversQuality p counts q ∥₁
covered_quality p share counts covers (Tight fractional) of_share = ∥∥₁_map of_share (λ (is : CarriesShare p share fractional). record {
  carries = record { same = refl; proper = subst (IsProperShare p.links) (sym is.same) is.proper; pairs = is.pairs; units = is.units; carried = is.carried };
  covers = λ pairs units. subst (λ (s : Share). CoversShare p.links pairs s counts) (sym is.same) (covers pairs units);
})
covered_quality p share counts covers (Loose cause) of_share = ∣ tt ∣₁
