-- comments below a report
use Rattle.std.specs.Prelude.{ℕ, List}
use Rattle.plan_terms.specs.Terms.{Evidence, Route, Master}
use Rattle.plan_report.specs.Terms.{KnownNames, SpellsReport, report_text, Report}
use Rattle.text_kit.specs.Terms.{Item}
use Rattle.report_comments.specs.Comments.{AddsLines}

-- evidence of a program that routes
abbrev pub IsOfRouting : Evidence → Type 0
IsOfRouting (Route state caps basis kind) = Unit {0}
IsOfRouting (Master basis kind) = ⊥

-- The text of a report spells it with comment lines after it, too.
abbrev pub ReportsTakeComments : Type 0
ReportsTakeComments = (known : KnownNames) (r : Report) (lines : List (List Item)) (text : List ℕ)
    → AddsLines (report_text known r) lines text
    → SpellsReport known (report_text known r) r
    → SpellsReport known text r
