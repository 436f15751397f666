-- a sound plan has no finding, kind by kind
use Rattle.std.proofs.Common.{◌≡◌, ℕ, ◌*◌, ◌≤◌, Bool, true, List, [], ◌∷◌, Some, All, get_or, sym, ◌∙◌, ap, subst, arith, slice_get, ⊎_elim, option_map}
use Rattle.net_core.proofs.Library.{props, get_or_from_slice_get, slice_get-map, all_at}
use Rattle.plan_terms.{specs.Terms.{Module, Flow, Case, graph_in, Joins, capacities, CertificateLine, IsCut, price, IsFlow}, proofs.Lemmas.right_once}
use Rattle.plan_types.{specs.Terms.{IsCarryingPlan, IsCertifiedPlan, IsCostedPlan, lines_of_certificate}, specs.declared.certificate.CertLine.CertLine, specs.declared.certificate.Spot.TheVariants.Local, specs.declared.plan.Plan.Plan, specs.declared.quality.Fractional.Fractional, specs.declared.quality.Quality.TheVariants.Tight}
use Rattle.plan_checker.{specs.Terms.{HasBadPath, IsOverloaded, IsUncarried, HasStaleRight, HoldsCostDiffers, IsLocalCut, IsOverpriced, HoldNone, HoldsNone, Kind, HoldsAt, HoldsDemandsDiffer, plan_case, HoldsNotTight, IsTight}, proofs.Telling.{no_bound, no_local, no_overloaded, no_place, no_price, no_raw, no_right, no_uncarried, no_wide}}
use Rattle.acceptance.specs.Laws.{SoundPlansAreAccepted}
use Rattle.plan_checker.specs.declared.finding.Finding.TheVariants as finding

-- that no finding holds has one proof at most
pub none_prop : (kinds : List Kind) → IsProp (HoldNone kinds)
none_prop [] = hlevel props
none_prop (kind ∷ kinds) = let rest = none_prop kinds in hlevel (rest, props)

module _ (p : Case) (plan : Plan) (carrying : IsCarryingPlan p plan) where
  no_bad_path : (s f : ℕ) → HasBadPath p plan.routings s f → ⊥
  no_bad_path s f bad =
      let flow : Flow = bad.holds.item in
      let is = all_at (IsFlow (Joins (graph_in p s)) p.demands) bad.item.flows f flow (carrying.each s bad.item bad.at).flows bad.holds.at in
      bad.holds.holds (record { of = is.of; at = is.at; path = is.path })

  uncarried : (s k : ℕ) → IsUncarried p 1 plan.routings s k → ⊥
  uncarried s k bad = bad.holds.holds ((carrying.each s bad.item bad.at).met k bad.holds.item bad.holds.at)

  overloaded : (s e : ℕ) → IsOverloaded (capacities p.links plan.counts) plan.routings s e → ⊥
  overloaded s e bad =
      let within = (carrying.each s bad.item bad.at).within e in
      let same : get_or (capacities p.links plan.counts) e 0 ≡ bad.holds.item = get_or_from_slice_get (capacities p.links plan.counts) e bad.holds.item 0 bad.holds.at in
      let over = bad.holds.holds in
      omega (arith, within, over, ap (λ n. n * bad.item.den) same)

-- a line of a certificate, without its spot
abbrev cut_line : CertLine → CertificateLine
cut_line l = record { cut = l.cut; num = l.num }

module _ (p : Case) (plan : Plan) (certified : IsCertifiedPlan p plan) where
  line_is_cut : (k : ℕ) (l : CertLine) → slice_get plan.certificate.lines k ≡ Some l → IsCut p l.cut
  line_is_cut k l at =
      all_at (λ (c : CertificateLine). IsCut p c.cut) (lines_of_certificate plan.certificate) k (cut_line l) certified.certificate.each
      (slice_get-map cut_line plan.certificate.lines k ∙ ap (option_map cut_line) at)

  local_cut : (full : Bool) (k : ℕ) → All (λ l. l.spot ≡ Local → full ≡ true) plan.certificate.lines → HoldsAt plan.certificate.lines k (IsLocalCut p full) → ⊥
  local_cut full k spots bad = ⊎_elim
      (λ apart. let yes : full ≡ true = all_at (λ (l : CertLine). l.spot ≡ Local → full ≡ true) plan.certificate.lines k bad.item spots bad.at apart.0 in absurd cc (yes, apart.1))
      (λ lost. lost (line_is_cut k bad.item bad.at).kept)
      bad.holds

  other_right : (k a b : ℕ) → HoldsAt plan.certificate.lines k (λ l. HasStaleRight p l.cut a b) → ⊥
  other_right k a b bad =
      let is = line_is_cut k bad.item bad.at in
      bad.holds.differ (sym bad.holds.printed ∙ right_once (Joins (graph_in p bad.item.cut.state.0)) bad.item.cut.lengths p.demands bad.item.cut.right b is.right bad.holds.right)

  overpriced : (e m : ℕ) → IsOverpriced p.links plan.certificate.den (lines_of_certificate plan.certificate) e m → ⊥
  overpriced e m bad =
      let lines = lines_of_certificate plan.certificate in
      let priced = all_at (λ (x : Module). price lines e * x.capacity ≤ plan.certificate.den * x.cost) bad.item.modules m bad.holds.item (certified.certificate.priced e bad.item bad.at) bad.holds.at in
      omega (arith, priced, bad.holds.holds)

-- the case is the one with the plan's own demands
own_case : (p : Case) (plan : Plan) → plan.demands ≡ p.demands → p ≡ plan_case p plan
own_case p plan same = ap (λ demands. record { nodes = p.nodes; links = p.links; listed = p.listed; demands = demands; places = p.places }) (sym same)

no_demands : (p : Case) (plan : Plan) → plan.demands ≡ p.demands → HoldsNone (HoldsDemandsDiffer p plan)
no_demands p plan same finding.DemandsDiffer h = h same
no_demands p plan same _ h = h

no_cost : (p : Case) (plan : Plan) → IsCostedPlan p plan → HoldsNone (HoldsCostDiffers p plan)
no_cost p plan costed (finding.CostDiffers a b) h = h.2 (sym h.0 ∙ costed ∙ h.1)
no_cost p plan costed _ h = h

no_loose : (p : Case) (plan : Plan) → ((f : Fractional) → plan.quality ≡ Tight f → IsTight p plan f) → HoldsNone (HoldsNotTight p plan)
no_loose p plan tight finding.NotTight h = h.2 (tight h.0 h.1)
no_loose p plan tight _ h = h

-- what is sound for the case is sound for the one with the plan's own demands
moved : (P : Case → Type 0) (p : Case) (plan : Plan) → plan.demands ≡ p.demands → P p → P (plan_case p plan)
moved P p plan same = subst P (own_case p plan same)

pub sound_plans_are_accepted : SoundPlansAreAccepted
sound_plans_are_accepted p full plan same carrying costed certified spots tight =
    let own = plan_case p plan in
    let lines = lines_of_certificate plan.certificate in
    let carries = moved (λ c. IsCarryingPlan c plan) p plan same carrying in
    let certifies = moved (λ c. IsCertifiedPlan c plan) p plan same certified in
    let certificate = certified.certificate in (
      no_demands p plan same,
      (
        no_place own plan.routings (no_bad_path own plan carries),
        (
          no_uncarried own plan.routings (uncarried own plan carries),
          (
            no_overloaded (capacities p.links plan.counts) plan.routings (overloaded own plan carries),
            (
              no_cost own plan costed,
              (
                no_local own full plan.certificate.lines (λ k. local_cut own plan certifies full k spots),
                (
                  no_right own plan.certificate.lines (other_right own plan certifies),
                  (
                    no_price p.links plan.certificate.den lines (overpriced own plan certifies),
                    (
                      no_wide p.links lines certificate.asked_limit certificate.given_limit,
                      (
                        no_raw p.links plan certified.raw,
                        (
                          no_bound p.links plan certificate.positive certified.rounded,
                          (
                            no_loose own plan (λ f is. moved (λ c. IsTight c plan f) p plan same (tight f is)),
                            tt,
                          ),
                        ),
                      ),
                    ),
                  ),
                ),
              ),
            ),
          ),
        ),
      ),
    )
