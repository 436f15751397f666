-- the text of a report, and the bytes that spell one
use Rattle.std.specs.Prelude.{ℕ, List, ◌∷◌, ◌++◌, codes}
use Rattle.plan_terms.specs.Terms.{Places, Three, Six}
use Rattle.plan_types.specs.declared.report.Report.{Report}
use Rattle.text_kit.specs.Terms.{IsFileOf, written}
use Rattle.plan_report.{specs.Forms.IsReportInForm, specs.Items.report_items, specs.KnownNames.KnownNames}

-- the first line of a report: version 1 with three places, 2 with six
abbrev pub report_header : Places → List ℕ
report_header Three = codes "?planner report; version: 1"
report_header Six = codes "?planner report; version: 2"

-- the text of a report: the first line, and after it the report's items as they are written
abbrev pub report_text : KnownNames → Report → List ℕ
report_text known r = report_header known.places ++ 10 ∷ written (report_items known r)

-- the bytes of a file spell this report: it is in form, and the file is its items
pub record SpellsReport (known : KnownNames) (bytes : List ℕ) (r : Report) : Type 0 where
  pub form : IsReportInForm known r
  pub file : IsFileOf (report_header known.places) (report_items known r) bytes
