-- the picture of a report
use Rattle.std.specs.Prelude.{◌≡◌, ℕ, List, [], ◌∷◌, ◌++◌, Option, None, Some, MatchOption, codes}
use Rattle.plan_terms.specs.Terms.{Case}
use Rattle.plan_report.specs.Terms.{Plan, Outcome, Planned, Unsurvivable}
use Rattle.plan_view.specs.Terms.{case_of_plan}
use Rattle.view_svg.specs.Pictures.{IsPicture}

-- the first plan of outcomes
abbrev pub first_plan : List Outcome → Option Plan
first_plan [] = None
first_plan (Planned caller serial plan ∷ outcomes) = Some plan
first_plan (Unsurvivable caller serial version position state demand ∷ outcomes) = first_plan outcomes

-- a picture that says that there is no plan
abbrev pub no_plan_text : List ℕ
no_plan_text =
    codes "<svg xmlns=\"http://www.w3.org/2000/svg\" viewBox=\"0 0 9600 7200\" font-family=\"sans-serif\" font-size=\"120\">\n"
    ++ codes "<text x=\"400\" y=\"280\">The report has no plan.</text>\n"
    ++ codes "</svg>\n"

-- The text is the picture of a report's first plan in a state, with the demands that it is of, or one that says that there is no plan.
abbrev pub IsReportPicture : List ℕ → Case → ℕ → List Outcome → List ℕ → Type 0
IsReportPicture network p s outcomes text =
    MatchOption (first_plan outcomes) (text ≡ no_plan_text) (λ plan. IsPicture network (case_of_plan p plan) plan s text)
