-- no certificate has a greater raw value than a tight plan: its share is carried in each state, so it violates no cut
use Rattle.std.proofs.Common.{◌≡◌, ℕ, ◌*◌, ◌<◌, ◌≤◌, List, [], length, get_or, sym, ap, arith, subst, mul-le-mul_left}
use Rattle.net_core.proofs.Library.{slice_get-get_or, le_of_mul-le-mul_left}
use Rattle.module_prices.specs.declared.cheapest.UnitPair.{UnitPair}
use Rattle.plan_terms.specs.Terms.{CutLine, Routing, Case, graph_in, IsCut, raw_value, Violates}
use Rattle.plan_types.specs.declared.quality.Fractional.{Fractional}
use Rattle.route_law.proofs.Lemmas.{violated_carries_nothing}
use Rattle.master_law.{specs.Terms.{share_caps, share_cost}, proofs.Capacities.share_count, proofs.Greatest.unviolated_raw}
use Rattle.plan_law.{specs.Laws.TightIsGreatest, specs.TightPlans.AreCarriedByShare}

-- a share that is carried in each state violates no cut
carried_violates_none : (p : Case) (pairs : List UnitPair) (fractional : Fractional) (cut : CutLine) → length pairs ≡ length p.links → length fractional.share.units ≡ length p.links
    → AreCarriedByShare p pairs fractional → IsCut p cut → Violates (share_caps p.links pairs fractional.share) cut → ⊥
carried_violates_none p pairs fractional cut count long carried is violated =
    let s = cut.state.0 in
    let at = slice_get-get_or fractional.routings s no_routing (subst (λ n. s < n) (sym carried.states) (omega (arith, is.listed_state))) in
    violated_carries_nothing (graph_in p s) p.demands (share_caps p.links pairs fractional.share) (get_or fractional.routings s no_routing) cut
    (share_count p.links pairs fractional.share count long) is.kept is.right (carried.each s (get_or fractional.routings s no_routing) at) violated
  where
    no_routing : Routing
    no_routing = record { den = 0; flows = [] }

-- over a positive scale, what is at most the cost of a share is at most the raw value that it costs
below_raw : (raw den scale cost raw_num raw_den : ℕ) → 0 < scale → raw * scale ≤ cost * den → cost * raw_den ≡ raw_num * scale → raw * raw_den ≤ raw_num * den
below_raw raw den scale cost raw_num raw_den positive low is =
    let one : raw_den * (raw * scale) ≤ raw_den * (cost * den) = mul-le-mul_left raw_den low in
    let two : scale * (raw * raw_den) ≤ scale * (raw_num * den) = omega (arith, one, ap (λ x. den * x) is) in
    le_of_mul-le-mul_left two positive

pub tight_is_greatest : TightIsGreatest
tight_is_greatest p pairs plan fractional den lines sound tight certificate =
    below_raw (raw_value p.links lines) den fractional.share.scale (share_cost pairs fractional.share) plan.raw_num plan.raw_den tight.share.positive
    (unviolated_raw p pairs fractional.share den lines sound tight.units tight.share.long certificate
    (λ k d lt violated. carried_violates_none p pairs fractional (get_or lines k d).cut tight.units.count tight.share.long tight.carried (certificate.each k d lt) violated))
    tight.raw
