-- what lines are good for: able counts meet them
use Rattle.std.specs.Prelude.{ℕ, ◌≤◌, List, if◌then◌else◌, length}
use Rattle.plan_terms.specs.Terms.{Case, IsAble, fails}
use Rattle.line_check.{specs.Inequalities.{MeetsLine, entry, table_of}, specs.Lines.{NamesLine, NamesRobust, Source}, specs.declared.inequality.Inequality.Inequality}

-- Able counts meet each line: that of a cut by weak duality, a sum by its terms, and a divided or a table line because counts are whole.
abbrev pub LinesAreMet : Type 0
LinesAreMet = (p : Case) (sources : List Source) (i : ℕ) (line : Inequality) (counts : List (List ℕ))
    → NamesLine p sources i line
    → IsAble p counts
    → MeetsLine p.links line counts

-- the modules that a state leaves
abbrev pub surviving_counts : Case → ℕ → List (List ℕ) → List (List ℕ)
surviving_counts p s counts = table_of p.links (λ e m. if fails p.listed s e then 0 else entry counts e m)

-- In each state the modules that are left of able counts meet each robust line.
abbrev pub RobustLinesAreMet : Type 0
RobustLinesAreMet = (p : Case) (sources : List Source) (i : ℕ) (line : Inequality) (counts : List (List ℕ)) (s : ℕ)
    → NamesRobust p sources i line
    → IsAble p counts
    → s ≤ length p.listed
    → MeetsLine p.links line (surviving_counts p s counts)
