-- reports that a check accepted
use Rattle.std.specs.Prelude.{All}
use Rattle.plan_terms.specs.Terms.{Case, Notes}
use Rattle.plan_report.specs.Terms.{IsReportInForm, known_to, Report}
use Rattle.report_checker.specs.Terms.{IsAcceptedOutcome, IsBelowAllAble, HasNoFinding}

-- A report in form without a finding: each outcome is what an accepted one is known to be, and each plan's bound holds for all able counts.
pub record IsAcceptedReport (p : Case) (notes : Notes) (r : Report) : Type 0 where
  pub form : IsReportInForm (known_to p) r
  pub clean : HasNoFinding notes p r
  pub outcomes : All (IsAcceptedOutcome p r) r.outcomes
  pub bounded : All (IsBelowAllAble p r) r.outcomes
