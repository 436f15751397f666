-- a plan of a snapshot is sound
use Rattle.std.proofs.Common.{◌≡◌, ℕ, ◌+◌, ◌^◌, ◌<◌, ◌≤◌, List, All, Option, Some, None, get_or, length, slice_get, refl, sym, ap, subst, arith}
use Rattle.net_core.proofs.Library.{slice_get-get_or}
use Rattle.plan_terms.{specs.Terms.{Entry, Routing, Case, graph_in, AreDemands, Joins, IsNetwork, AreCounts, AreWithinLimits, capacities, total_cost, raw_value, IsFallback, raised, Carries, HasShortLengths}, proofs.Lemmas.{lowest_positive, weak_duality}}
use Rattle.plan_types.specs.Terms.{lines_of_certificate}
use Rattle.plan_report.specs.Terms.{known_to, IsPlanInForm, IsQualityInForm, IsRoutingInForm, Plan, Quality}
use Rattle.route_law.specs.Terms.{IsLowestRouting}
use Rattle.cut_pool.specs.declared.snapshot.Snapshot.{Snapshot}
use Rattle.module_choice.specs.declared.fallback.Fallback.{Fallback}
use Rattle.plan_rounds.{specs.Terms.{Best, AreWorkedRounds}, specs.declared.rounds.Worked.Worked}
use Rattle.plan_law.specs.LoosePlans.{HasQuality}
use Rattle.share_covers.{specs.InstalledRoutes.installed_caps, specs.declared.choice.Chosen.Chosen}
use Rattle.planner.{specs.SnapshotPlans.IsSnapshotPlan, specs.declared.own_bound.CertifiedBound.CertifiedBound, specs.inner.Finishing.{IsBetterBound, IsChosenFor, IsGreaterBound, plan_made}, proofs.Candidates.IsCertifiedBound, proofs.Carrying.able, proofs.GreaterBounds.best_multipliers, proofs.InForm.{cost_low, demands_in_form, lowest_whole, routing_in_form}, proofs.QualityForms.routed_form, proofs.SnapshotBounds.{EndsAs, IsWorkedFor, above_own, bound_certified, candidates_are, certificate_cuts, has_best, lines_are, lines_held, raw_at, raw_more}, proofs.SnapshotQuality.{form_none, form_some, quality_none, quality_some}}

-- ---- the counts

-- counts with a routing for each state, at no more than the fallback plan's cost
record AreChosenCounts (p : Case) (fallback : Fallback) (chosen : Chosen) : Type 0 where
  pub shape : AreCounts p.links chosen.counts
  pub limits : AreWithinLimits p.links chosen.counts
  pub states : length chosen.routings ≡ length p.listed + 1
  pub carries : (s : ℕ) (r : Routing) → slice_get chosen.routings s ≡ Some r → Carries (Joins (graph_in p s)) p.demands 1 (capacities p.links chosen.counts) r
  pub forms : All (IsRoutingInForm p.links p.demands) chosen.routings
  pub lowest : All IsLowestRouting chosen.routings
  pub paid : chosen.cost ≡ total_cost p.links chosen.counts
  pub at_most : chosen.cost ≤ fallback.cost

module _ (p : Case) (net : IsNetwork p.nodes p.links) (belong : AreDemands (length p.nodes) p.demands) (fallback : Fallback)
    (is_fallback : IsFallback p fallback.counts fallback.routings fallback.cost) (limits : AreWithinLimits p.links fallback.counts) where
  fallback_counts : (q : Quality) → AreChosenCounts p fallback (record { counts = fallback.counts; routings = fallback.routings; cost = fallback.cost; quality = q })
  fallback_counts q = record {
    shape = is_fallback.shape;
    limits = limits;
    states = is_fallback.states;
    carries = is_fallback.carries;
    forms = λ s d lt. routing_in_form (graph_in p s) p.demands belong (raised is_fallback.prices) (get_or fallback.routings s d) (is_fallback.routed s (get_or fallback.routings s d) (slice_get-get_or fallback.routings s d lt));
    lowest = λ s d lt. lowest_whole (get_or fallback.routings s d) (is_fallback.routed s (get_or fallback.routings s d) (slice_get-get_or fallback.routings s d lt)).whole;
    paid = is_fallback.paid;
    at_most = omega arith;
  }

  chosen_counts : (o : Option Best) (q : Quality) (chosen : Chosen) → IsChosenFor p o fallback q chosen → AreChosenCounts p fallback chosen
  chosen_counts None q chosen same = subst (AreChosenCounts p fallback) (sym same) (fallback_counts q)
  chosen_counts (Some best) q chosen is = record {
    shape = is.shape;
    limits = is.limits;
    states = is.routed.states;
    carries = λ s r at. (is.routed.each s r at).carries;
    forms = λ s d lt. routed_form (graph_in p s) p.demands belong net.few_links (installed_caps p.links chosen.counts) (get_or chosen.routings s d) (is.routed.each s (get_or chosen.routings s d) (slice_get-get_or chosen.routings s d lt));
    lowest = λ s d lt. (is.routed.each s (get_or chosen.routings s d) (slice_get-get_or chosen.routings s d lt)).lowest;
    paid = is.paid;
    at_most = is.at_most;
  }

  fallback_low : fallback.cost < 2 ^ 126
  fallback_low = let paid = is_fallback.paid in omega (arith, paid, cost_low p.nodes p.links fallback.counts net limits.few)

  -- ---- the whole

  module _ {history : List Entry} (s : Snapshot) {w : Worked} (f : IsWorkedFor p history s.cuts w) (b : CertifiedBound) (chosen : Chosen) (short : All HasShortLengths w.lines)
      (better : IsBetterBound p.links w b) (is : IsChosenFor p w.best fallback w.quality chosen) where
    abbrev are : AreWorkedRounds p history s.cuts w
    are = f.are

    abbrev whole : Plan
    whole = plan_made (record { version = s.version; position = s.position }) p.demands chosen b

    certified : IsCertifiedBound p history b
    certified = bound_certified f short b better

    quality_by : (o : Option Best) → w.best ≡ o → EndsAs f o → IsChosenFor p o fallback w.quality chosen → IsGreaterBound p.links w better.own o b
        → HasQuality p are.pairs s.cuts whole are.rounds w.lines chosen.quality
    quality_by None same ends made greater = quality_none p are.pairs s.cuts w.lines are.rounds are.list whole w.quality chosen.quality ends (ap (λ (x : Chosen). x.quality) made)
    quality_by (Some best) same ends made greater =
        let h = has_best f best same in
        quality_some p are.pairs s.cuts w.lines are.rounds are.list best chosen whole refl
        (raw_at f short b better best greater)
        (best_multipliers p history w (candidates_are f) h.cuts h.more h.following best h.of).positive
        (raw_more f short b better best greater)
        w.quality chosen.quality ends made.quality

    form_by : (o : Option Best) → EndsAs f o → IsChosenFor p o fallback w.quality chosen → IsQualityInForm (known_to p) p.demands chosen.quality
    form_by None ends made = form_none p are.pairs s.cuts w.lines are.rounds are.list net belong (lines_are f) short w.quality chosen.quality ends (ap (λ (x : Chosen). x.quality) made)
    form_by (Some best) ends made = form_some p are.pairs s.cuts w.lines are.rounds are.list net belong (lines_are f) short best chosen.cost w.quality chosen.quality ends made.quality

    bound_low : b.bound < 2 ^ 126
    bound_low =
        let made = certified in
        let le = weak_duality p b.certificate.den (lines_of_certificate b.certificate) b.bound fallback.counts made.certificate made.rounded (able p fallback.counts fallback.routings fallback.cost is_fallback) in
        let paid = is_fallback.paid in
        let most = fallback_low in
        omega (arith, le, paid, most)

    raw_positive : 1 ≤ b.raw.den
    raw_positive = let made = certified in lowest_positive (raw_value p.links (lines_of_certificate b.certificate)) b.certificate.den b.raw.num b.raw.den made.certificate.positive made.raw

    form : s.version ≤ s.position → s.position ≤ 65536 → All (λ d. length d.name ≤ 255) p.demands → IsPlanInForm (known_to p) whole
    form version position named =
        let counts = chosen_counts w.best w.quality chosen is in
        let made = certified in
        record {
          version = omega (arith, version, position);
          position = position;
          demands = demands_in_form p.nodes p.demands belong named;
          counts = counts.shape;
          limits = counts.limits;
          cost = let le = counts.at_most in let low = fallback_low in omega (arith, le, low);
          routings = record { long = counts.states; each = counts.forms };
          certificate = made.form;
          raw_num = made.raw_num;
          raw_positive = raw_positive;
          raw_den = made.raw_den;
          bound = bound_low;
          quality = form_by w.best are.ends is;
        }

    pub plan_sound : s.version ≤ s.position → s.position ≤ 65536 → All (λ d. length d.name ≤ 255) p.demands → p.demands ≡ s.demands → IsSnapshotPlan p s history whole
    plan_sound version position named same =
        let counts = chosen_counts w.best w.quality chosen is in
        let made = certified in
        record {
          same_version = refl;
          same_position = refl;
          same_demands = same;
          carrying = record { states = counts.states; each = counts.carries };
          costed = counts.paid;
          certified = record { certificate = made.certificate; raw = made.raw; rounded = made.rounded };
          above = above_own f short b better;
          below = record { counts = fallback.counts; routings = fallback.routings; fallback_cost = fallback.cost; fallback = is_fallback; at_most = counts.at_most };
          form = form version position named;
          lowest = record { certificate = made.lowest; none = made.none; routings = counts.lowest };
          spots = made.spots;
          cuts = w.lines;
          worked = record {
            pairs = are.pairs;
            rounds = are.rounds;
            worked = are.list;
            certificate = certificate_cuts f short b better;
            quality = quality_by w.best refl are.ends is better.greater;
          };
          held = lines_held f;
        }
