-- the report of a trimmed plan
use Rattle.std.proofs.Common.{List, sym, subst}
use Rattle.plan_terms.specs.Terms.{Demand, Notes, Case}
use Rattle.plan_report.specs.Terms.{AreRoutingsInForm, known_to, Plan}
use Rattle.acceptance.specs.Terms.{IsTranscript}
use Rattle.trim_plan.{specs.Trimmed.{IsRoutedPlan, IsTrimming}, specs.declared.trimmed_plan.Trimmed.Trimmed}
use Rattle.plan_reports.{specs.LonePlans.{IsSoundDesign, plan_commands, redesigned_plan, whole_report}, specs.declared.planned_report.PlannedReport.PlannedReport, proofs.Accepted.lone_plans_are_accepted, proofs.CheaperKept.cheaper_redesigns_are_plans, proofs.PlansOf.lone_plans_carry, specs.TrimmedReports.IsTrimmedReport}

module _ (p : Case) (notes : Notes) (r : PlannedReport) (t : IsTranscript p notes plan_commands (whole_report r)) where
  -- the plan of a transcript can be trimmed
  pub routed_plan : IsRoutedPlan p r.plan
  routed_plan =
      let made = (lone_plans_carry p notes r t).0 in
      record { carrying = made.carrying; costed = made.costed; form = made.form; lowest = made.lowest }

  -- the report with another plan
  abbrev with_plan : Plan → PlannedReport
  with_plan plan = record { notes = r.notes; entries = r.entries; pool = r.pool; plan = plan }

  module _ (trimmed : Trimmed) (is : IsTrimming p r.plan trimmed) where
    abbrev new : Plan
    new = redesigned_plan r.plan trimmed.plan.counts trimmed.plan.cost trimmed.plan.routings

    new_routed : IsRoutedPlan p new
    new_routed = subst (IsRoutedPlan p) is.same is.routed

    design : IsSoundDesign p new
    design = record {
      shape = new_routed.form.counts;
      limits = new_routed.form.limits;
      low = new_routed.form.cost;
      form = subst (λ (ds : List Demand). AreRoutingsInForm (known_to p) ds trimmed.plan.routings) (lone_plans_carry p notes r t).0.demands new_routed.form.routings;
      carrying = new_routed.carrying;
      costed = new_routed.costed;
    }

    new_transcript : IsTranscript p notes plan_commands (whole_report (with_plan trimmed.plan))
    new_transcript = subst (λ (plan : Plan). IsTranscript p notes plan_commands (whole_report (with_plan plan))) (sym is.same)
        (cheaper_redesigns_are_plans p notes r trimmed.plan.counts trimmed.plan.cost trimmed.plan.routings t design new_routed.lowest is.cheaper)

    pub trimmed_report : IsTrimmedReport p notes (with_plan trimmed.plan) trimmed.blocks
    trimmed_report = record {
      transcript = new_transcript;
      trimmed = is.trimmed;
      acceptable = lone_plans_are_accepted p notes (with_plan trimmed.plan) new_transcript;
    }
