-- the fallback plan, or the covers of a share
use Rattle.std.proofs.Common.{◌≡◌, ℕ, ◌*◌, ◌≤◌, ◌<◌, Bool, true, false, if◌then◌else◌, nat_lt, inl, inr, List, [], All, Some, get_or, length, refl, subst, arith, slice_get, ltb-false, ltb-true}
use Rattle.net_core.proofs.Library.{slice_get-get_or, ∥∥₁_elim, eq-one_of_dvd-one, props, ◌∣◌}
use Rattle.module_choice.{specs.declared.fallback.Fallback.Fallback, proofs.Carrying.{few_flows, flows_small}}
use Rattle.module_prices.specs.declared.cheapest.UnitPair.{UnitPair}
use Rattle.plan_terms.specs.Terms.{Case, graph_in, AreDemands, Joins, IsLink, Evidence, Routing, AreWithinLimits, IsFallback, raised, Carries}
use Rattle.plan_types.{specs.declared.quality.Fractional.Fractional, specs.declared.quality.Quality.Quality, specs.declared.quality.Quality.TheVariants.{Tight, Loose}, specs.declared.quality.Share.Share}
use Rattle.master_law.specs.Terms.{AreUnitPairs, share_caps}
use Rattle.plan_law.{specs.TightPlans.CostsAtMostCover, proofs.Covering.covers_carry}
use Rattle.share_covers.{specs.Choices.{CarriesShare, IsChosen, IsQualityAfter, IsQualityOfShare, IsWideAtCovers, RulesOutCovers}, specs.InstalledRoutes.{AreRoutedWithin, IsRoutesAnswer, IsShortWithin, IsWideWithin, installed_caps}, specs.ShareCovers.AreShareCovers, specs.declared.covers.Installed.Installed, specs.declared.routes.InstalledRoutes.InstalledRoutes, specs.declared.routes.InstalledRoutes.TheVariants.{Routed, Short, Wide}, specs.inner.Decided.decided, specs.inner.Widened.widened}

no_routing : Routing
no_routing = record { den = 1; flows = [] }

module _ (p : Case) (demands : AreDemands (length p.nodes) p.demands) (few : length p.nodes ≤ 128) (sound : All (IsLink (length p.nodes)) p.links) (fallback : Fallback) (falls : IsFallback p fallback.counts fallback.routings fallback.cost) where
  -- the routings of the fallback plan are those of its counts' capacities
  fallback_routed : AreRoutedWithin p (installed_caps p.links fallback.counts) fallback.routings
  fallback_routed = record {
    states = falls.states;
    each = λ s r at.
        let least = falls.routed s r at in
        record {
          carries = falls.carries s r at;
          lowest = λ d of_den of_nums. eq-one_of_dvd-one (subst (λ n. d ∣ n) least.whole of_den);
          few = omega (arith, few_flows (Joins (graph_in p s)) (raised falls.prices) p.demands r least);
          den_limit = omega (arith, least.whole);
          nums_limit = λ k d lt. let small = flows_small (graph_in p s) (length p.nodes) (raised falls.prices) p.demands r few sound demands least k d lt in omega (arith, small.0);
        };
  }

  module _ (narrow : AreWithinLimits p.links fallback.counts) (share : Share) (before : Quality) (installed : Installed) (covers : AreShareCovers p.links share installed) where
    -- what costs no more than the covers
    covered_cost : (cost : ℕ) → cost ≤ installed.cost → (pairs : List UnitPair) → AreUnitPairs p.links pairs → CostsAtMostCover p.links pairs share cost
    covered_cost cost le pairs units = record { counts = installed.counts; covers = covers.covers pairs units; at_most = omega (arith, le, covers.paid) }

    -- a quality stays where the cost is no more than that of the covers
    stays : (cost : ℕ) → cost ≤ installed.cost → (q : Quality) → IsQualityAfter p share cost q q
    stays cost le (Tight fractional) = inl (refl, covered_cost cost le)
    stays cost le (Loose cause) = refl

    -- the covers
    taken : (routings : List Routing) → AreRoutedWithin p (installed_caps p.links installed.counts) routings → installed.cost ≤ fallback.cost
        → IsChosen p share fallback before (record { counts = installed.counts; routings = routings; cost = installed.cost; quality = before })
    taken routings routed le = record {
      shape = covers.shape;
      limits = covers.limits;
      routed = routed;
      paid = covers.paid;
      at_most = le;
      origin = inl (λ pairs units. covers.covers pairs units);
      quality = stays installed.cost (omega arith) before;
    }

    -- the fallback plan
    kept : (after : Quality) → RulesOutCovers p fallback.cost installed.counts installed.cost → IsQualityAfter p share fallback.cost before after
        → IsChosen p share fallback before (record { counts = fallback.counts; routings = fallback.routings; cost = fallback.cost; quality = after })
    kept after cause quality = record {
      shape = falls.shape;
      limits = narrow;
      routed = fallback_routed;
      paid = falls.paid;
      at_most = omega arith;
      origin = inr (record { same = (refl, refl); installed = installed; covers = covers; cause = cause });
      quality = quality;
    }

    -- which costs less than the covers
    pub kept_cheaper : fallback.cost < installed.cost → IsChosen p share fallback before (record { counts = fallback.counts; routings = fallback.routings; cost = fallback.cost; quality = before })
    kept_cheaper lt = kept before (inl lt) (stays fallback.cost (omega (arith, lt)) before)

    -- which costs as much as covers that are too wide
    kept_equal : fallback.cost ≤ installed.cost → (evidence : Evidence) → IsWideWithin p (installed_caps p.links installed.counts) evidence → IsChosen p share fallback before (record { counts = fallback.counts; routings = fallback.routings; cost = fallback.cost; quality = before })
    kept_equal le evidence wide = kept before (inr (inl (evidence, wide))) (stays fallback.cost le before)

    quality_widened : (evidence : Evidence) → IsWideAtCovers p share fallback.cost evidence → (q : Quality) → IsQualityAfter p share fallback.cost q (widened evidence q)
    quality_widened evidence wide (Tight fractional) = inr (evidence, refl, wide)
    quality_widened evidence wide (Loose cause) = refl

    -- which costs more than covers that are too wide
    kept_wide : installed.cost < fallback.cost → (evidence : Evidence) → IsWideWithin p (installed_caps p.links installed.counts) evidence
        → IsChosen p share fallback before (record { counts = fallback.counts; routings = fallback.routings; cost = fallback.cost; quality = widened evidence before })
    kept_wide lt evidence wide =
        kept (widened evidence before) (inr (inl (evidence, wide))) (quality_widened evidence (record { installed = installed; covers = covers; cheaper = lt; wide = wide }) before)

    -- covers of a share that carries the demands aren't short
    never_short : (s : ℕ) → IsShortWithin p (installed_caps p.links installed.counts) s → (fractional : Fractional) → CarriesShare p share fractional → ⊥
    never_short s short fractional of_share =
        let r = get_or fractional.routings s no_routing in
        let at : slice_get fractional.routings s ≡ Some r = slice_get-get_or fractional.routings s no_routing (omega (arith, of_share.carried.states, short.listed_state)) in
        let here : Carries (Joins (graph_in p s)) p.demands share.scale (share_caps p.links of_share.pairs share).nums r =
        subst (λ (x : Share). Carries (Joins (graph_in p s)) p.demands x.scale (share_caps p.links of_share.pairs x).nums r) of_share.same (of_share.carried.each s r at) in
        short.none (record { den = share.scale * r.den; flows = r.flows }) (covers_carry p of_share.pairs share installed.counts s r of_share.units demands of_share.proper (covers.covers of_share.pairs of_share.units) here)

    quality_short : (s : ℕ) → IsShortWithin p (installed_caps p.links installed.counts) s → (q : Quality) → ∥ IsQualityOfShare p share q ∥₁ → IsQualityAfter p share fallback.cost q q
    quality_short s short (Tight fractional) of_share = absurd (∥∥₁_elim of_share (hlevel props) (λ (is : CarriesShare p share fractional). never_short s short fractional is))
    quality_short s short (Loose cause) of_share = refl

    -- which is there where the covers are short
    kept_short : ∥ IsQualityOfShare p share before ∥₁ → (s : ℕ) → IsShortWithin p (installed_caps p.links installed.counts) s
        → IsChosen p share fallback before (record { counts = fallback.counts; routings = fallback.routings; cost = fallback.cost; quality = before })
    kept_short of_share s short = kept before (inr (inr (s, short))) (quality_short s short before of_share)

    -- covers that are too wide, which cost less than the fallback plan or as much
    decides_wide : (evidence : Evidence) → IsWideWithin p (installed_caps p.links installed.counts) evidence → installed.cost ≤ fallback.cost → (cheaper : Bool) → nat_lt installed.cost fallback.cost ≡ cheaper
        → IsChosen p share fallback before (record { counts = fallback.counts; routings = fallback.routings; cost = fallback.cost; quality = if cheaper then widened evidence before else before })
    decides_wide evidence wide le true lt = kept_wide (ltb-true _ _ lt) evidence wide
    decides_wide evidence wide le false ge = kept_equal (ltb-false _ _ ge) evidence wide

    -- what is decided where the fallback plan costs no less
    pub decides : installed.cost ≤ fallback.cost → ∥ IsQualityOfShare p share before ∥₁ → (answer : InstalledRoutes) → IsRoutesAnswer p (installed_caps p.links installed.counts) answer → IsChosen p share fallback before (decided installed fallback before answer)
    decides le of_share (Routed routings) routed = taken routings routed le
    decides le of_share (Wide evidence) wide = decides_wide evidence wide le (nat_lt installed.cost fallback.cost) refl
    decides le of_share (Short state) short = kept_short of_share state.0 short
