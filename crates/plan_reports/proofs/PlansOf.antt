-- what the plan of a transcript is known to be
use Rattle.std.proofs.Common.{◌≡◌, ◌≢◌, ◌∙◌, ℕ, ◌*◌, ◌<◌, ◌==◌, Bool, cond, List, [], ◌∷◌, Some, get_or, slice_get, take, refl, ap, subst, arith, All, mul-pos, ne_eqb}
use Rattle.net_core.proofs.Library.{∥∥₁_elim, ∥∥₁_map, props, All-head, All-tail, slice_get-get_or, sum_by-cons}
use Rattle.plan_terms.specs.Terms.{Demand, Notes, Flow, Routing, Case, graph_in, Joins, capacities, Carries, IsFlow, IsPath, IsSurvivable, Separates, sent}
use Rattle.plan_types.specs.Terms.{IsCarryingPlan, IsCostedPlan}
use Rattle.plan_report.specs.Terms.{IsOutcomeInForm, known_to, Plan, Planned}
use Rattle.route_law.specs.Terms.{IsLowestRouting}
use Rattle.acceptance.specs.Terms.{IsPlanBetween, IsTranscript, RunsFrom}
use Rattle.plan_reports.{specs.declared.planned_report.PlannedReport.PlannedReport, specs.Designs.{IsMadePlan, LonePlansCarry}, specs.LonePlans.{plan_commands, whole_report}, proofs.Alone.unmoved, proofs.Certain.carrying_certain}
use Rattle.session_script.specs.declared.script.Act.TheVariants as acts

-- ---- survivable cases

-- what flows of other demands send
none_sent : (k : ℕ) (flows : List Flow) → All (λ f. f.demand ≢ k) flows → sent flows k ≡ 0
none_sent k [] all = refl
none_sent k (f ∷ fs) all =
    let here : cond (f.demand == k) f.num 0 ≡ 0 = ap (λ (b : Bool). cond b f.num 0) (ne_eqb f.demand k (All-head (λ (x : Flow). x.demand ≢ k) f fs all)) in
    let rest = none_sent k fs (All-tail (λ (x : Flow). x.demand ≢ k) f fs all) in
    let sum = sum_by-cons (λ (x : Flow). cond (x.demand == k) x.num 0) f fs in
    omega (arith, here, rest, sum)

one_at : (d e : Demand) (ds : List Demand) (k j : ℕ) → k ≡ j → slice_get ds k ≡ Some d → slice_get ds j ≡ Some e → d ≡ e
one_at d e ds k j same a b = cc (same, a, b)

-- a routing of a state carries no demand that the state separates
separated_uncarried : (p : Case) (s k : ℕ) (nums : List ℕ) (r : Routing) → Carries (Joins (graph_in p s)) p.demands 1 nums r → Separates p s k → ⊥
separated_uncarried p s k nums r carries separates =
    let none = none_sent k r.flows (λ i d lt same.
    let flow : IsFlow (Joins (graph_in p s)) p.demands (get_or r.flows i d) = carries.flows i d lt in
    let demand = one_at flow.of separates.demand p.demands (get_or r.flows i d).demand k same flow.at separates.at in
    separates.apart (get_or r.flows i d).path (subst (λ (x : Demand). IsPath (Joins (graph_in p s)) x.from.0 x.to.0 (get_or r.flows i d).path) demand flow.path)) in
    let met = carries.met k separates.demand separates.at in
    let need = separates.needed in
    let den = carries.den in
    let some : 0 < separates.demand.need * r.den = mul-pos need den in
    grind (arith, none, met, some)

abbrev idle : Routing
idle = record { den = 1; flows = [] }

carried_survivable : (p : Case) (plan : Plan) → IsCarryingPlan p plan → IsSurvivable p
carried_survivable p plan carrying s k le separates =
    let long = carrying.states in
    let at = slice_get-get_or plan.routings s idle (omega (arith, long, le)) in
    separated_uncarried p s k (capacities p.links plan.counts) (get_or plan.routings s idle) (carrying.each s (get_or plan.routings s idle) at) separates

-- ---- the plan

module _ (p : Case) (notes : Notes) (r : PlannedReport) (t : IsTranscript p notes plan_commands (whole_report r)) where
  -- the plan is made of the opening demands
  record IsToldPlan : Type 0 where
    pub demands : r.plan.demands ≡ p.demands
    pub carrying : IsCarryingPlan p r.plan
    pub costed : IsCostedPlan p r.plan
    pub lowest : All IsLowestRouting r.plan.routings

  made : ∥ IsToldPlan ∥₁
  made =
      let run : RunsFrom p r.entries 1 0 1 (acts.Plan ∷ []) (Planned 1 1 r.plan ∷ []) = t.runs 1 in
      ∥∥₁_map run.5.2 (λ (is : IsPlanBetween p (take run.0 r.entries) (take run.1 r.entries) r.plan).
      let same = unmoved p notes (whole_report r) t run.0 in
      record {
        demands = is.sound.same_demands ∙ (is.demands ∙ same);
        carrying = subst (λ (ds : List Demand). IsCarryingPlan (record { nodes = p.nodes; links = p.links; listed = p.listed; demands = ds; places = p.places }) r.plan) same is.sound.carrying;
        costed = is.sound.costed;
        lowest = is.sound.lowest.routings;
      })

  made_plan : IsMadePlan p r.plan
  made_plan = record {
    demands = ∥∥₁_elim made (hlevel props) (λ is. is.demands);
    carrying = carrying_certain p r.plan (∥∥₁_map made (λ is. is.carrying));
    costed = ∥∥₁_elim made (hlevel props) (λ is. is.costed);
    form = (All-head (IsOutcomeInForm (known_to p) r.pool) (Planned 1 1 r.plan) [] t.form.outcomes).plan;
    lowest = ∥∥₁_elim made (hlevel props) (λ is. is.lowest);
  }

pub lone_plans_carry : LonePlansCarry
lone_plans_carry p notes r t = let made = made_plan p notes r t in (made, carried_survivable p r.plan made.carrying)
