-- the plans of an accepted report are sound
use Rattle.std.proofs.Common.{◌≡◌, ℕ, List, All, get_or, length, subst, sym, take}
use Rattle.plan_terms.specs.Terms.{AreDemands, Case, Demand, Notes}
use Rattle.plan_types.specs.Terms.{IsCarryingPlan, IsCertifiedPlan}
use Rattle.plan_report.specs.Terms.{IsOutcomeInForm, IsPlanInForm, known_to, Plan, Outcome, Planned, Unsurvivable, Report}
use Rattle.plan_view.specs.Terms.{IsSoundPlan, HasSoundPlan, case_of_plan}
use Rattle.plan_checker.specs.Terms.{HoldNone, IsAcceptedPlan}
use Rattle.report_checker.specs.Terms.{DemandsDiffer, IsAcceptedOutcome, outcome_findings}
use Rattle.cut_pool.specs.Histories.{demands_left}
use Rattle.people_views.{specs.AcceptedReports.IsAcceptedReport, proofs.KeptDemands.demands_kept, proofs.SameDemands.same_demands}

-- the case with these demands
abbrev case_with : Case → List Demand → Case
case_with p demands = record { nodes = p.nodes; links = p.links; listed = p.listed; demands = demands; places = p.places }

-- an accepted plan is sound for its own demands, which are those of the case
own_sound : (p : Case) (demands : List Demand) (plan : Plan) → plan.demands ≡ demands → IsPlanInForm (known_to p) plan → IsAcceptedPlan (case_with p demands) plan
    → IsSoundPlan (case_of_plan p plan) plan
own_sound p demands plan same form accepted = record {
  form = form;
  carrying = subst (λ (ds : List Demand). IsCarryingPlan (case_with p ds) plan) (sym same) accepted.carrying;
  costed = accepted.costed;
  certified = subst (λ (ds : List Demand). IsCertifiedPlan (case_with p ds) plan) (sym same) accepted.certified;
}

module _ (p : Case) (r : Report) (belong : AreDemands (length p.nodes) p.demands) where
  -- the demands of a plan without a finding
  plan_demands : (caller serial : ℕ) (plan : Plan) → HoldNone (outcome_findings p r (Planned caller serial plan)) → plan.demands ≡ demands_left p (take plan.position r.entries)
  plan_demands caller serial plan none = same_demands plan.demands (demands_left p (take plan.position r.entries)) (λ other. none.1.0 DemandsDiffer other)

  outcome_sound : (notes : Notes) (accepted : IsAcceptedReport p notes r) (o : Outcome) → IsOutcomeInForm (known_to p) r.pool o → HoldNone (outcome_findings p r o) → IsAcceptedOutcome p r o → HasSoundPlan p o
  outcome_sound notes accepted (Planned caller serial plan) form none is =
      let same = plan_demands caller serial plan none in (
        subst (λ (ds : List Demand). AreDemands (length p.nodes) ds) (sym same) (demands_kept p r.pool r.entries plan.position accepted.form.entries belong),
        own_sound p (demands_left p (take plan.position r.entries)) plan same form.plan is,
      )
  outcome_sound notes accepted (Unsurvivable caller serial version position state demand) form none is = tt

  pub outcomes_sound : (notes : Notes) → IsAcceptedReport p notes r → All (HasSoundPlan p) r.outcomes
  outcomes_sound notes accepted = λ k d lt.
      outcome_sound notes accepted (get_or r.outcomes k d) (accepted.form.outcomes k d lt) (accepted.clean.outcomes k d lt) (accepted.outcomes k d lt)
