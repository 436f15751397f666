-- the quality of a plan of a snapshot is right, and in form
use Rattle.std.proofs.Common.{◌≡◌, ℕ, pos, ◌+◌, ◌*◌, ◌<◌, ◌≤◌, ◌<ℤ◌, inl, inr, ⊎_elim, List, [], ◌∷◌, ◌++◌, All, Option, Some, None, IfSome, get_or, length, refl, sym, subst, arith, append-nil}
use Rattle.net_core.proofs.Library.{ints, slice_get-get_or}
use Rattle.plan_terms.specs.Terms.{Evidence, Route, Master, RouteColumn, WideKind, StateId, Caps, CutLine, Routing, Case, graph_in, AreDemands, IsNetwork, IsCut, HasShortLengths}
use Rattle.module_prices.specs.declared.cheapest.UnitPair.{UnitPair}
use Rattle.plan_report.specs.Terms.{known_to, AreCapsInForm, IsEvidenceInForm, IsQualityInForm, IsShareInForm, Plan, Wide, Cuts, Fractional, Quality, Tight, Loose, Share}
use Rattle.route_law.specs.Terms.{IsRouteEvidence}
use Rattle.plan_rounds.specs.Terms.{IsBestOf, Best, EndsBy, IsBestAt, IsBestOfLast, IsCarriedAt, IsWideAt}
use Rattle.master_law.specs.Terms.{IsLeastShare, share_caps, share_cost}
use Rattle.plan_law.specs.Terms.{HasQuality, IsLooseByWidth, IsWideInState, KeepsUp, AreCarriedByShare, CostsAtMostCover, CostsRawValue, IsProperShare, Round, after_rounds, IsWorkedList}
use Rattle.share_covers.{specs.Choices.{IsQualityAfter, IsQualityOfShare, IsWideAtCovers}, specs.declared.choice.Chosen.Chosen}
use Rattle.planner.{specs.inner.Finishing.IsShareFor, proofs.EvidenceForms.{master_evidence_form, route_evidence_form}, proofs.GreaterBounds.keeps_up, proofs.QualityForms.{installed_form, routed_form, share_caps_form}}

-- a best certificate of the first of some cuts
pub record HasBest (p : Case) (lines : List CutLine) (best : Best) : Type 0 where
  pub cuts : List CutLine
  pub more : List CutLine
  pub following : lines ≡ cuts ++ more
  pub of : IsBestOf p.links cuts best
  pub pairs : List UnitPair
  pub least : IsLeastShare p.links pairs cuts best.share

-- what holds of what is there
pub if_some : {X : Type 0} (P : X → Type 0) (o : Option X) → ((x : X) → o ≡ Some x → P x) → IfSome o P
if_some P None each = tt
if_some P (Some x) each = each x refl

-- a least share has a positive scale
pub scale_positive : (p : Case) (pairs : List UnitPair) (cuts : List CutLine) (share : Share) → IsLeastShare p.links pairs cuts share → 0 < share.scale
scale_positive p pairs cuts share least =
    let positive : pos 0 <ℤ pos share.scale = subst (λ d. pos 0 <ℤ d) least.scale least.best.objective.0 in
    omega (arith, ints, positive)

module _ (p : Case) (pairs : List UnitPair) (pool lines : List CutLine) (rounds : List Round) (list : IsWorkedList p pairs pool rounds lines) where
  abbrev Ends : Option Best → Quality → Type 0
  Ends = EndsBy p pairs lines (length lines ≡ length pool + 4096) (IsBestOfLast p pairs list.start rounds)

  -- ---- the best certificate is that of all cuts, or of those before the last round

  of_all : (best : Best) → IsBestAt p pairs lines best → HasBest p lines best
  of_all best at = record { cuts = lines; more = []; following = sym (append-nil lines); of = at.of; pairs = pairs; least = at.least }

  of_last : (rounds : List Round) (start : List CutLine) (best : Best) → lines ≡ after_rounds start rounds → IsBestOfLast p pairs start rounds (Some best) → HasBest p lines best
  of_last [] start best whole last = absurd (let e : Some best ≡ None = last in cc e)
  of_last (last ∷ earlier) start best whole is = record { cuts = after_rounds start earlier; more = last.cuts; following = whole; of = is.1.of; pairs = pairs; least = is.1.least }

  pub best_there : (q : Quality) (best : Best) → Ends (Some best) q → HasBest p lines best
  best_there (Tight fractional) best ends = of_all best ends.best_of
  best_there (Loose (Wide (Route state caps basis kind))) best ends = of_all best ends.0.best_of
  best_there (Loose (Wide (Master basis kind))) best ends = of_last rounds list.start best list.whole ends.1
  best_there (Loose Cuts) best ends = of_all best ends.1.best_of

  -- ---- what counts are chosen for

  carried_by : (best : Best) (fractional : Fractional) → IsCarriedAt p pairs lines best fractional → AreCarriedByShare p pairs fractional
  carried_by best fractional is = record {
    states = is.states;
    lowest = λ k d lt. (is.routed k (get_or fractional.routings k d) (slice_get-get_or fractional.routings k d lt)).lowest;
    each = λ s r at. (is.routed s r at).carries;
  }

  pub quality_of_share : (q : Quality) (best : Best) → Ends (Some best) q → IsQualityOfShare p best.share q
  quality_of_share (Tight fractional) best ends = record { same = ends.share; proper = subst (IsProperShare p.links) ends.share ends.proper; pairs = pairs; units = list.units; carried = carried_by best fractional ends }
  quality_of_share (Loose cause) best ends = tt

  pub share_for : (q : Quality) (best : Best) → Ends (Some best) q → IsShareFor p q best
  share_for q best ends =
      let h = best_there q best ends in
      record { scale = scale_positive p h.pairs h.cuts best.share h.least; units = h.least.count; of_share = quality_of_share q best ends }

  -- ---- the quality of the plan

  module _ (best : Best) (chosen : Chosen) (plan : Plan) (same_cost : plan.cost ≡ chosen.cost)
      (raw_is : IsBestAt p pairs lines best → (plan.raw_num ≡ best.raw_num) × (plan.raw_den ≡ best.raw_den))
      (positive : 0 < best.raw_den) (raw_more : best.raw_num * plan.raw_den ≤ plan.raw_num * best.raw_den) where
    costs_raw : IsBestAt p pairs lines best → CostsRawValue pairs best.share plan
    costs_raw at =
        let r = raw_is at in
        subst (λ n. share_cost pairs best.share * plan.raw_den ≡ n * best.share.scale) (sym r.0)
        (subst (λ d. share_cost pairs best.share * d ≡ best.raw_num * best.share.scale) (sym r.1) at.raw)

    keeps : (rounds : List Round) (start : List CutLine) → IsBestOfLast p pairs start rounds (Some best) → KeepsUp pairs rounds plan
    keeps [] start last = tt
    keeps (last ∷ earlier) start is =
        subst (λ (sh : Share). share_cost pairs sh * plan.raw_den ≤ plan.raw_num * sh.scale) is.0
        (keeps_up (share_cost pairs best.share) best.share.scale best.raw_num best.raw_den plan.raw_num plan.raw_den positive is.1.raw raw_more)

    covers_wide : IsBestAt p pairs lines best → (evidence : Evidence) → IsWideAtCovers p best.share chosen.cost evidence → IsLooseByWidth p pairs plan rounds lines evidence
    covers_wide at (Route state within basis kind) wide =
        let here = wide.wide.here in
        let s = wide.wide.state in
        record {
          listed_state = subst (λ k. k ≤ length p.listed) (sym here.0) wide.wide.listed_state;
          share = best.share;
          least = at.least;
          raw = costs_raw at;
          of_share = inr (record { counts = wide.installed.counts; covers = wide.covers.covers pairs list.units; small = wide.covers.small; are = here.1 });
          evidence = subst (λ k. IsRouteEvidence (graph_in p k) p.demands within basis kind) (sym here.0)
              (subst (λ (caps : Caps). IsRouteEvidence (graph_in p s) p.demands caps basis kind) (sym here.1) here.2);
        }
    covers_wide at (Master basis kind) wide = absurd wide.wide.here

    share_wide : (state : StateId) (caps : Caps) (basis : List RouteColumn) (kind : WideKind RouteColumn) → IsWideAt p pairs lines best state.0 caps basis kind → IsWideInState p pairs lines plan state.0 caps basis kind
    share_wide state caps basis kind is = record {
      listed_state = is.listed_state;
      share = best.share;
      least = is.best_of.least;
      raw = costs_raw is.best_of;
      of_share = inl is.of_share;
      evidence = is.evidence;
    }

    pub quality_some : (q after : Quality) → Ends (Some best) q → IsQualityAfter p best.share chosen.cost q after → HasQuality p pairs pool plan rounds lines after
    quality_some (Tight fractional) after ends h = ⊎_elim
        (λ kept. subst (HasQuality p pairs pool plan rounds lines) (sym kept.0) (record {
          units = list.units;
          share = ends.proper;
          raw = subst (λ (sh : Share). CostsRawValue pairs sh plan) (sym ends.share) (costs_raw ends.best_of);
          carried = carried_by best fractional ends;
          cost = subst (λ (sh : Share). CostsAtMostCover p.links pairs sh plan.cost) (sym ends.share) (subst (CostsAtMostCover p.links pairs best.share) (sym same_cost) (kept.1 pairs list.units));
        }))
        (λ (wide : (evidence : Evidence) × (after ≡ Loose (Wide evidence)) × IsWideAtCovers p best.share chosen.cost evidence).
        subst (HasQuality p pairs pool plan rounds lines) (sym wide.1) (covers_wide ends.best_of wide.0 wide.2))
        h
    quality_some (Loose (Wide (Route state caps basis kind))) after ends h = subst (HasQuality p pairs pool plan rounds lines) (sym h) (share_wide state caps basis kind ends.0)
    quality_some (Loose (Wide (Master basis kind))) after ends h = subst (HasQuality p pairs pool plan rounds lines) (sym h) (ends.0, keeps rounds list.start ends.1)
    quality_some (Loose Cuts) after ends h = subst (HasQuality p pairs pool plan rounds lines) (sym h) (record {
      full = ends.0;
      share = best.share;
      least = ends.1.best_of.least;
      raw = costs_raw ends.1.best_of;
      further = ends.1.further;
      found = ends.1.found;
    })

  no_last : (plan : Plan) (rounds : List Round) (start : List CutLine) → IsBestOfLast p pairs start rounds None → KeepsUp pairs rounds plan
  no_last plan [] start last = tt
  no_last plan (last ∷ earlier) start is = absurd is

  pub quality_none : (plan : Plan) (q after : Quality) → Ends None q → after ≡ q → HasQuality p pairs pool plan rounds lines after
  quality_none plan (Tight fractional) after ends same = absurd ends
  quality_none plan (Loose (Wide (Route state caps basis kind))) after ends same = absurd ends
  quality_none plan (Loose (Wide (Master basis kind))) after ends same = subst (HasQuality p pairs pool plan rounds lines) (sym same) (ends.0, no_last plan rounds list.start ends.1)
  quality_none plan (Loose Cuts) after ends same = absurd ends.1

  -- ---- in form

  module _ (net : IsNetwork p.nodes p.links) (belong : AreDemands (length p.nodes) p.demands) (are : All (IsCut p) lines) (short : All HasShortLengths lines) where
    abbrev InForm : Quality → Type 0
    InForm = IsQualityInForm (known_to p) p.demands

    share_form : (best : Best) → IsBestAt p pairs lines best → IsShareInForm p.links best.share
    share_form best at = record {
      positive = scale_positive p pairs lines best.share at.least;
      scale = at.of.scale_limit;
      units = record { long = at.least.count; each = at.of.units_limit };
    }

    covers_form : (share : Share) (cost : ℕ) (evidence : Evidence) → IsWideAtCovers p share cost evidence → IsEvidenceInForm (known_to p) p.demands evidence
    covers_form share cost (Route state within basis kind) wide =
        let here = wide.wide.here in
        let s = wide.wide.state in
        route_evidence_form (graph_in p s) p.demands belong p.places p.listed state within basis kind
        (subst (λ k. k ≤ length p.listed) (sym here.0) wide.wide.listed_state)
        (subst (AreCapsInForm p.links) (sym here.1) (installed_form p.links wide.installed.counts wide.covers.shape wide.covers.limits))
        (subst (λ (caps : Caps). IsRouteEvidence (graph_in p s) p.demands caps basis kind) (sym here.1) here.2)
    covers_form share cost (Master basis kind) wide = absurd wide.wide.here

    pub form_some : (best : Best) (cost : ℕ) (q after : Quality) → Ends (Some best) q → IsQualityAfter p best.share cost q after → InForm after
    form_some best cost (Tight fractional) after ends h = ⊎_elim
        (λ kept. subst InForm (sym kept.0) (
          subst (IsShareInForm p.links) (sym ends.share) (share_form best ends.best_of),
          record {
            long = ends.states;
            each = λ s d lt.
                let r : Routing = get_or fractional.routings s d in
                routed_form (graph_in p s) p.demands belong net.few_links (share_caps p.links pairs fractional.share) r (ends.routed s r (slice_get-get_or fractional.routings s d lt));
          },
        ))
        (λ (wide : (evidence : Evidence) × (after ≡ Loose (Wide evidence)) × IsWideAtCovers p best.share cost evidence). subst InForm (sym wide.1) (covers_form best.share cost wide.0 wide.2))
        h
    form_some best cost (Loose (Wide (Route state caps basis kind))) after ends h = subst InForm (sym h)
        (route_evidence_form (graph_in p state.0) p.demands belong p.places p.listed state caps basis kind ends.0.listed_state
        (subst (AreCapsInForm p.links) (sym ends.0.of_share) (share_caps_form p.nodes p.links pairs best.share net list.units (share_form best ends.0.best_of)))
        ends.0.evidence)
    form_some best cost (Loose (Wide (Master basis kind))) after ends h = subst InForm (sym h) (master_evidence_form p pairs lines are short basis kind ends.0)
    form_some best cost (Loose Cuts) after ends h = subst InForm (sym h) tt

    pub form_none : (q after : Quality) → Ends None q → after ≡ q → InForm after
    form_none (Tight fractional) after ends same = absurd ends
    form_none (Loose (Wide (Route state caps basis kind))) after ends same = absurd ends
    form_none (Loose (Wide (Master basis kind))) after ends same = subst InForm (sym same) (master_evidence_form p pairs lines are short basis kind ends.0)
    form_none (Loose Cuts) after ends same = absurd ends.1
