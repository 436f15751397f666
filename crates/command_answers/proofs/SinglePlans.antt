-- the report of one plan command
use Rattle.std.proofs.Common.{◌≡◌, ℕ, List, refl, inl}
use Rattle.plan_terms.specs.Terms.{Notes, Case}
use Rattle.plan_report.specs.Terms.{known_to, SpellsReport, report_text}
use Rattle.plan_reports.{specs.Terms.{IsTranscript, plan_commands}, specs.declared.planned_report.PlannedReport.PlannedReport, proofs.Lemmas.lone_plans_are_accepted}
use Rattle.proof_report.specs.Terms.{whole_report}
use Rattle.outside_io.{specs.declared.status.Status.Status, specs.declared.status.Status.TheVariants.Done}
use Rattle.command_answers.specs.Answers.{EndsPlan, IsPlanReport, IsSummary, summary}

module _ (p : Case) (notes : Notes) (r : PlannedReport) (t : IsTranscript p notes plan_commands (whole_report r)) where
  -- its text is the report of a plan
  pub plan_report : (text : List ℕ) → text ≡ report_text (known_to p) (whole_report r) → IsPlanReport p notes text
  plan_report text printed =
      let accepted = lone_plans_are_accepted p notes r t in
      record {
        report = whole_report r;
        plan = r.plan;
        alone = refl;
        printed = record { transcript = t; clean = accepted.clean; bounded = accepted.bounded; printed = printed };
      }

  -- planning ends with this report
  pub plan_ends : (status : Status) (text : List ℕ) → status ≡ Done → text ≡ report_text (known_to p) (whole_report r) → SpellsReport (known_to p) text (whole_report r) → EndsPlan p notes status text
  unfolding plan_report
  plan_ends status text done printed spelled = inl (done, (plan_report text printed, spelled))

  -- the lines of the plan are a summary
  pub plan_summary : (seed nodes : ℕ) (text : List ℕ) → text ≡ summary seed nodes p r.plan → IsSummary seed nodes p notes text
  unfolding plan_report
  plan_summary seed nodes text printed = record {
    report = report_text (known_to p) (whole_report r);
    planned = plan_report (report_text (known_to p) (whole_report r)) refl;
    printed = printed;
  }
