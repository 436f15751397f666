-- routings and evidence at capacities over a divisor, at the capacities themselves
use Rattle.std.proofs.Common.{◌≡◌, ℕ, pos, ◌+◌, ◌*◌, ◌/◌, ◌^◌, ◌<◌, ◌≤◌, ◌==◌, ⊎_elim, if◌then◌else◌, List, [], ◌∷◌, ◌++◌, All, Some, get_or, length, map, slice_get, slice_index, refl, sym, ap, subst, ◌∙◌, arith, eq-eqb, append_assoc, length-append, mul-le-mul_right}
use Rattle.net_core.proofs.Library.{IsGcd, ◌∣◌, get_or-map, length-map, get_or-le-sum_by, dvd_trans, get_or_from_slice_get, slice_get-get_or, slice_get_within, dvd-mul_left_of_dvd, dvd_of_mul-dvd-mul_left, eq-one_of_dvd-one, mul-div_cancel', mul-dvd-mul_left, positive_divisor}
use Rattle.plan_terms.{specs.Terms.{Evidence, Route, Master, RouteColumn, DemandSlack, LinkSlack, Number, Demand, Caps, Flow, Routing, Case, graph_in, Graph, Joins, Carries, sent}, proofs.Lemmas.product_below}
use Rattle.simplex_law.specs.Terms.{IsWide}
use Rattle.route_law.{specs.Terms.{caps_times, flows_times, IsRouteEvidence, IsLowestRouting, flow_times, over_times, route_bound, route_rows, route_slack, scaled_need}, proofs.Lemmas.{divided_are_wide, carried_lowest, divided_are_carried, beside_after, number_evidence}}
use Rattle.master_law.proofs.Shared.{divides_common}
use Rattle.separator.{specs.Terms.IsRouted, proofs.Seeing.get_more}
use Rattle.plan_rounds.{specs.inner.Answered.{AreRoutedStates, IsEvidenceOfState}, specs.inner.Sharing.{AreSlackNames, AreUndivided, HasWideNeed, IsUndivided, at_caps}}

-- ---- flows are small where needs are

flows_small : (joins : ℕ → ℕ → ℕ → Type 0) (demands : List Demand) (scale : ℕ) (nums : List ℕ) (r : Routing) → Carries joins demands scale nums r → All (λ d. d.need * scale < 2 ^ 62) demands → r.den < 2 ^ 62 → All (λ f. f.num < 2 ^ 124) r.flows
flows_small joins demands scale nums r c narrow den k e lt =
    let f = get_or r.flows k e in
    let is = c.flows k e lt in
    let all : sent r.flows f.demand ≡ is.of.need * scale * r.den = c.met f.demand is.of is.at in
    let need : is.of.need * scale < 2 ^ 62 = subst (λ (d : Demand). d.need * scale < 2 ^ 62) (get_or_from_slice_get demands f.demand is.of is.of is.at) (narrow f.demand is.of (slice_get_within demands f.demand is.of is.at)) in
    let product : is.of.need * scale * r.den < 2 ^ 62 * 2 ^ 62 = product_below (is.of.need * scale) r.den (2 ^ 62) (2 ^ 62) need (omega arith) den in
    let own : (if f.demand == f.demand then f.num else 0) ≤ sent r.flows f.demand = get_or-le-sum_by (λ (g : Flow). if g.demand == f.demand then g.num else 0) r.flows k e lt in
    let same : (if f.demand == f.demand then f.num else 0) ≡ f.num = ap (λ b. if b then f.num else 0) (eq-eqb f.demand f.demand refl) in
    omega (arith, product, own, same, all)

-- ---- one routing

flow_both : (a b : ℕ) (flows : List Flow) → map (flow_times (a * b)) flows ≡ map (flow_times a) (map (flow_times b) flows)
flow_both a b [] = refl
flow_both a b (f ∷ fs) =
    let num : a * b * f.num ≡ a * (b * f.num) = omega arith in
    let rest = flow_both a b fs in
    let first : flow_times (a * b) f ≡ flow_times a (flow_times b f) = ap (λ n. record { demand = f.demand; path = f.path; num = n }) num in
    cc (first, rest)

module _ (g : Graph) (demands : List Demand) (divisor : ℕ) (divided whole : Caps) (some : 0 < divisor) (times : caps_times divisor divided ≡ whole) where
  carried_whole : (r : Routing) → Carries (Joins g) demands divided.scale divided.nums r → Carries (Joins g) demands whole.scale whole.nums (flows_times divisor r)
  carried_whole r c = subst (λ (k : Caps). Carries (Joins g) demands k.scale k.nums (flows_times divisor r)) times (divided_are_carried g demands divisor divided r some c)

  module _ (narrow : All (λ d. d.need * whole.scale < 2 ^ 62) demands) where
    -- flows stay narrow as many times
    pub flows_fit : (r : Routing) → IsRouted g demands divided r → All (λ f. divisor * f.num < 2 ^ 124) r.flows
    flows_fit r is k d lt =
        let all = flows_small (Joins g) demands whole.scale whole.nums (flows_times divisor r) (carried_whole r is.carries) narrow is.den_limit in
        let at = all k (flow_times divisor d) (subst (λ n. k < n) (sym (length-map r.flows (flow_times divisor))) lt) in
        subst (λ (f : Flow). f.num < 2 ^ 124) (get_or-map (flow_times divisor) r.flows k d (flow_times divisor d) lt) at

    pub undivided_routed : (old new : Routing) → IsRouted g demands divided old → IsUndivided divisor old new → IsRouted g demands whole new
    undivided_routed old new is u = record {
      carries = carries;
      lowest = lowest;
      few = let same : length new.flows ≡ length old.flows = ap length u.flows ∙ length-map old.flows (flow_times u.factor) in omega (arith, same, is.few);
      den_limit = den_limit;
      nums_limit = flows_small (Joins g) demands whole.scale whole.nums new carries narrow den_limit;
    }
      where
        whole_flows : map (flow_times divisor) old.flows ≡ map (flow_times u.common) new.flows
        whole_flows = ap (λ d. map (flow_times d) old.flows) u.divisor_is ∙ (flow_both u.common u.factor old.flows ∙ ap (map (flow_times u.common)) (sym u.flows))

        same : flows_times divisor old ≡ over_times u.common new
        same = let den = u.den in let flows = whole_flows in cc (den, flows)

        carries : Carries (Joins g) demands whole.scale whole.nums new
        carries = carried_lowest (Joins g) demands u.common whole.scale whole.nums new u.positive (subst (Carries (Joins g) demands whole.scale whole.nums) same (carried_whole old is.carries))

        den_limit : new.den < 2 ^ 62
        den_limit = let more : 1 * new.den ≤ u.common * new.den = mul-le-mul_right new.den u.positive in omega (arith, more, u.den, is.den_limit)

        swap : (a b : ℕ) → a * b ≡ b * a
        swap a b = omega arith

        -- what divides a flow as many times, and the denominator, divides the flow
        of_flow : (d n : ℕ) → d ∣ new.den → d ∣ u.factor * n → d ∣ n
        of_flow d n of_den of_num = divides_common d n 1 (λ j. u.factor) (λ j lt. subst (λ x. d ∣ x) (swap u.factor n) of_num)
            (λ x of_d of_factor. u.apart x (dvd_trans x of_d of_den) (of_factor 0 (omega arith)))

        lowest : IsLowestRouting new
        lowest d of_den of_nums = is.lowest d (subst (λ n. d ∣ n) (sym u.den) (dvd-mul_left_of_dvd d of_den u.common)) (λ k e lt.
            of_flow d (get_or old.flows k e).num of_den
            (subst (λ (f : Flow). d ∣ f.num) (ap (λ fs. get_or fs k (flow_times u.factor e)) u.flows ∙ get_or-map (flow_times u.factor) old.flows k e (flow_times u.factor e) lt)
            (of_nums k (flow_times u.factor e) (subst (λ n. k < n) (sym (ap length u.flows ∙ length-map old.flows (flow_times u.factor))) lt))))

-- ---- the routings of all states

pub states_routed : (p : Case) (divisor n : ℕ) (divided whole : Caps) (old new : List Routing) → 0 < divisor → caps_times divisor divided ≡ whole → All (λ d. d.need * whole.scale < 2 ^ 62) p.demands
    → AreRoutedStates p divided n old → AreUndivided divisor old new → AreRoutedStates p whole n new
states_routed p divisor n divided whole old new some times narrow are is = record {
  count = is.count ∙ are.count;
  each = λ s r at.
      let inside : s < length old = omega (arith, slice_get_within new s r at, is.count) in
      let there = slice_get-get_or old s r inside in
      undivided_routed (graph_in p s) p.demands divisor divided whole some times narrow (get_or old s r) r (are.each s (get_or old s r) there) (is.each s (get_or old s r) r there at);
}

-- ---- evidence

pub whole_evidence : (p : Case) (divisor : ℕ) (divided whole : Caps) (evidence : Evidence) → 0 < divisor → caps_times divisor divided ≡ whole → IsEvidenceOfState p divided evidence → IsEvidenceOfState p whole (at_caps whole evidence)
whole_evidence p divisor divided whole (Route state within basis kind) some times e =
    (e.0, e.1, (e.2.0, refl, subst (λ (k : Caps). IsRouteEvidence (graph_in p e.0) p.demands k basis kind) times (divided_are_wide (graph_in p e.0) p.demands divisor divided basis kind some e.2.2)))
whole_evidence p divisor divided whole (Master basis kind) some times e = absurd e.2

-- what a demand needs over the scale is a wide bound
pub need_wide : (g : Graph) (demands : List Demand) (caps : Caps) (k : ℕ) (names : List RouteColumn) → HasWideNeed demands caps.scale k → AreSlackNames (length g.links) (length g.links + length demands) names → IsRouteEvidence g demands caps names (Number (DemandSlack k))
need_wide g demands caps k names need are = subst (λ name. IsRouteEvidence g demands caps names (Number name)) slack
    (number_evidence g demands caps (length g.links + k) names inside wide (record { count = are.count; each = λ j lt. are.each j lt }))
  where
    within : k < length demands
    within = slice_get_within demands k need.demand need.at

    inside : length g.links + k < route_rows g demands
    inside = omega (arith, within)

    slack : route_slack g (length g.links + k) ≡ DemandSlack k
    slack = beside_after (length g.links) (λ e. LinkSlack (record { 0 = e })) (λ j. DemandSlack j) k

    here : scaled_need demands caps k ≡ need.demand.need * caps.scale
    here = ap (λ n. n * caps.scale) (get_or-map (λ (d : Demand). d.need) demands k need.demand 0 within ∙ ap (λ (d : Demand). d.need) (get_or_from_slice_get demands k need.demand need.demand need.at))

    bound : route_bound g demands caps (length g.links + k) ≡ pos (need.demand.need * caps.scale)
    bound = beside_after (length g.links) (λ e. pos (slice_index caps.nums e)) (λ j. pos (scaled_need demands caps j)) k ∙ ap pos here

    wide : IsWide (route_bound g demands caps (length g.links + k))
    wide = subst IsWide (sym bound) need.wide

-- ---- one after another

-- some are done, and the others are left
pub record IsUnderWay (divisor : ℕ) (all left new : List Routing) : Type 0 where
  pub done : List Routing
  pub parts : all ≡ done ++ left
  pub are : AreUndivided divisor done new

pub under_way_more : (divisor : ℕ) (all rest new : List Routing) (a b : Routing) → IsUnderWay divisor all (a ∷ rest) new → IsUndivided divisor a b → IsUnderWay divisor all rest (new ++ b ∷ [])
under_way_more divisor all rest new a b w is = record {
  done = w.done ++ a ∷ [];
  parts = w.parts ∙ sym (append_assoc w.done (a ∷ []) rest);
  are = record {
    count = let same = w.are.count in omega (arith, same, length-append new (b ∷ []), length-append w.done (a ∷ []));
    each = λ i x y one two. ⊎_elim
        (λ (front : (i < length w.done) × (slice_get w.done i ≡ Some x)). ⊎_elim
        (λ (there : (i < length new) × (slice_get new i ≡ Some y)). w.are.each i x y front.1 there.1)
        (λ (last : (i ≡ length new) × (b ≡ y)). absurd (let same = w.are.count in omega (arith, front.0, last.0, same)))
        (get_more new b i y two))
        (λ (last : (i ≡ length w.done) × (a ≡ x)). ⊎_elim
        (λ (there : (i < length new) × (slice_get new i ≡ Some y)). absurd (let same = w.are.count in omega (arith, there.0, last.0, same)))
        (λ (both : (i ≡ length new) × (b ≡ y)). subst (λ (r : Routing). IsUndivided divisor r y) last.1 (subst (λ (r : Routing). IsUndivided divisor a r) both.1 is))
        (get_more new b i y two))
        (get_more w.done a i x one);
  };
}

-- the quotient of a divisor and the new denominator have no common divisor
pub undivided_of : (divisor common : ℕ) (old new : Routing) → 0 < divisor → IsGcd old.den divisor common → new.den ≡ old.den / common → new.flows ≡ map (flow_times (divisor / common)) old.flows → IsUndivided divisor old new
undivided_of divisor common old new some gcd den flows = record {
  common = common;
  factor = divisor / common;
  positive = positive;
  den = whole ∙ ap (λ n. common * n) (sym den);
  divisor_is = sym (mul-div_cancel' common gcd.1);
  flows = flows;
  apart = λ d of_den of_factor.
      let up : common * d ∣ old.den = subst (λ n. common * d ∣ n) (sym whole) (mul-dvd-mul_left d common (subst (λ n. d ∣ n) den of_den)) in
      let also : common * d ∣ divisor = subst (λ n. common * d ∣ n) (mul-div_cancel' common gcd.1) (mul-dvd-mul_left d common of_factor) in
      let low : common * d ∣ common * 1 = subst (λ n. common * d ∣ n) (once common) (gcd.2 (common * d) up also) in
      eq-one_of_dvd-one (dvd_of_mul-dvd-mul_left d positive low);
}
  where
    positive : 0 < common
    positive = positive_divisor common divisor some gcd.1

    whole : old.den ≡ common * (old.den / common)
    whole = sym (mul-div_cancel' common gcd.0)

    once : (n : ℕ) → n ≡ n * 1
    once n = omega arith
