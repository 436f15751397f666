-- what holds of the report of one plan
use Rattle.std.specs.Prelude.{ℕ, List, All}
use Rattle.plan_terms.specs.Terms.{Notes, Routing, Case}
use Rattle.plan_report.specs.Terms.{IsReportInForm, known_to, Report}
use Rattle.acceptance.specs.Terms.{IsBelowAllAble, HasNoFinding, IsTranscript}
use Rattle.plan_reports.{specs.declared.planned_report.PlannedReport.PlannedReport, specs.LonePlans.{IsSoundDesign, plan_commands, redesigned, redesigned_plan, whole_report}}

-- the report is in form, no finding holds of it, and no counts that can carry a plan's demands cost less than the plan's bound
pub record IsAcceptable (p : Case) (notes : Notes) (r : Report) : Type 0 where
  pub form : IsReportInForm (known_to p) r
  pub clean : HasNoFinding notes p r
  pub bounded : All (IsBelowAllAble p r) r.outcomes

-- the report of a plan is acceptable
abbrev pub LonePlansAreAccepted : Type 0
LonePlansAreAccepted = (p : Case) (notes : Notes) (r : PlannedReport)
    → IsTranscript p notes plan_commands (whole_report r)
    → IsAcceptable p notes (whole_report r)

-- the report of a plan with a sound design in the place of its own is acceptable
abbrev pub RedesignsAreAccepted : Type 0
RedesignsAreAccepted = (p : Case) (notes : Notes) (r : PlannedReport) (counts : List (List ℕ)) (cost : ℕ) (routings : List Routing)
    → IsTranscript p notes plan_commands (whole_report r)
    → IsSoundDesign p (redesigned_plan r.plan counts cost routings)
    → IsAcceptable p notes (whole_report (redesigned r counts cost routings))
