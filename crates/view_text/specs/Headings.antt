-- the first line of a view
use Rattle.std.{specs.Prelude.{ℕ, List, [], ◌∷◌, ◌++◌, ◌&&◌, Bool, true, false, cond, codes, length, nat_eq, nat_lt}, specs.List.list_all}
use Rattle.plan_terms.specs.Terms.{Case, Demand, Places, total_need}
use Rattle.plan_report.specs.Terms.{Outcome, Planned, Unsurvivable}
use Rattle.text_kit.specs.Terms.{money_word}
use Rattle.view_cells.specs.Terms.{counted}

-- the outcome is a plan
abbrev pub is_planned : Outcome → Bool
is_planned (Planned caller serial plan) = true
is_planned (Unsurvivable caller serial version position state demand) = false

-- all failures are survived: there is a plan, and no outcome without one
abbrev pub are_all_survived : List Outcome → Bool
are_all_survived outcomes = nat_lt 0 (length outcomes) && list_all is_planned outcomes

-- the demands of which the first line tells: those of a single plan, and else those of the network's file
abbrev pub told_demands : List Demand → List Outcome → List Demand
told_demands demands (Planned caller serial plan ∷ []) = plan.demands
told_demands demands _ = demands

-- how large a network is
abbrev pub size_text : ℕ → ℕ → List ℕ
size_text nodes links = counted nodes (codes "node") (codes "nodes") ++ codes ", " ++ counted links (codes "link") (codes "links")

-- how many demands there are, and what they need together
abbrev pub demands_text : Places → List Demand → List ℕ
demands_text places demands =
    codes ", " ++ counted (length demands) (codes "demand") (codes "demands") ++ codes " of " ++ money_word places (total_need demands)

-- how many failures there are, and whether all are survived
abbrev pub failures_text : ℕ → Bool → List ℕ
failures_text count survived =
    codes "; " ++ cond (nat_eq count 0) (codes "no failures") (counted count (codes "failure") (codes "failures") ++ cond survived (codes ", all survived") [])

-- the first line: the network's file, its size, the demands, and the failures
abbrev pub heading_text : List ℕ → Case → List Outcome → List ℕ
heading_text network p outcomes =
    network ++ codes "   " ++ size_text (length p.nodes) (length p.links) ++ demands_text p.places (told_demands p.demands outcomes)
    ++ failures_text (length p.listed) (are_all_survived outcomes)
    ++ codes "\n\n"
