-- the report of a plan with its branch tree
use Rattle.std.proofs.Common.{ℕ, List, arith, subst, sym}
use Rattle.plan_terms.specs.Terms.{Case, CutLine, Demand, Notes}
use Rattle.plan_report.specs.Terms.{AreRoutingsInForm, known_to, Plan}
use Rattle.plan_reports.{specs.Terms.{IsTranscript, IsRoutedPlan, IsSoundDesign, plan_commands, redesigned_plan, whole_report}, specs.declared.planned_report.PlannedReport.PlannedReport, proofs.Lemmas.{lone_plans_are_accepted, cheaper_redesigns_are_plans, lone_plans_carry}}
use Rattle.tree_search.{specs.Terms.Proof, specs.Proving.{IsProofOf, ShowsBound, ShowsCheapest}}
use Rattle.proof_report.{proofs.Roots.root_alone, specs.ProvedReports.{AreHandedIn, IsLinedReport, IsTrimmedOnce, certificate_cuts}, specs.declared.ending.ProvedReport.ProvedReport}

module _ (p : Case) (notes : Notes) (limit : ℕ) (r : PlannedReport) (is : IsTrimmedOnce p notes r) where
  abbrev t : IsTranscript p notes plan_commands (whole_report r)
  t = is.trimmed.transcript

  -- the plan carries the opening demands
  pub routed_plan : IsRoutedPlan p r.plan
  routed_plan =
      let made = (lone_plans_carry p notes r t).0 in
      record { carrying = made.carrying; costed = made.costed; form = made.form; lowest = made.lowest }

  module _ (cuts : List CutLine) (handed : AreHandedIn r.pool (certificate_cuts r.plan.certificate) cuts) (proof : Proof) (proved : IsProofOf p r.plan cuts limit proof) where
    abbrev new : Plan
    new = redesigned_plan r.plan proof.plan.counts proof.plan.cost proof.plan.routings

    new_routed : IsRoutedPlan p new
    new_routed = subst (IsRoutedPlan p) proved.plan.same proved.plan.routed

    design : IsSoundDesign p new
    design = record {
      shape = new_routed.form.counts;
      limits = new_routed.form.limits;
      low = new_routed.form.cost;
      form = subst (λ (ds : List Demand). AreRoutingsInForm (known_to p) ds proof.plan.routings) (lone_plans_carry p notes r t).0.demands new_routed.form.routings;
      carrying = new_routed.carrying;
      costed = new_routed.costed;
    }

    abbrev made : ProvedReport
    made = record { notes = r.notes; entries = r.entries; pool = r.pool; proof = proof }

    abbrev with_plan : Plan → PlannedReport
    with_plan plan = record { notes = r.notes; entries = r.entries; pool = r.pool; plan = plan }

    new_transcript : IsTranscript p notes plan_commands (whole_report (with_plan proof.plan))
    new_transcript = subst (λ (plan : Plan). IsTranscript p notes plan_commands (whole_report (with_plan plan))) (sym proved.plan.same)
        (cheaper_redesigns_are_plans p notes r proof.plan.counts proof.plan.cost proof.plan.routings t design new_routed.lowest proved.plan.cheaper)

    pub lined_report_made : ShowsCheapest p proof → ShowsBound p proof → IsLinedReport p notes limit made
    lined_report_made cheapest above = record {
      transcript = new_transcript;
      acceptable = lone_plans_are_accepted p notes (with_plan proof.plan) new_transcript;
      given = r.plan;
      trimmed = is;
      handed = cuts;
      begun = handed;
      proved = proved;
      rooted = λ none. root_alone p proof proved.accepted (let within = proved.within in omega (arith, within, none));
      cheapest = cheapest;
      above = above;
    }
