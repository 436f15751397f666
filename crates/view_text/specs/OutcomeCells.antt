-- lines and cells of outcomes
use Rattle.std.specs.Prelude.{ℕ, List, [], ◌∷◌, ◌++◌, codes, cond, decimal, map, nat_eq}
use Rattle.plan_terms.specs.Terms.{Listed, Places}
use Rattle.plan_report.specs.Terms.{state_name, Outcome, Planned, Unsurvivable}
use Rattle.text_kit.specs.Terms.{money_word}
use Rattle.view_cells.specs.Terms.{HasRows}

-- the line of an outcome without a plan whose demand a failure separates
abbrev pub failure_text : List Listed → ℕ → List ℕ → List ℕ
failure_text listed state demand =
    codes "  no plan: the failure " ++ state_name listed state ++ codes " separates the ends of demand " ++ demand ++ codes "\n"

-- the line of an outcome without a plan whose demand can't be carried even where nothing fails
abbrev pub unlinked_text : List ℕ → List ℕ
unlinked_text demand = codes "  no plan: without any failure the ends of demand " ++ demand ++ codes " are apart\n"

-- the line of an outcome without a plan: the state separates the ends of the demand
abbrev pub separation_text : List Listed → ℕ → List ℕ → List ℕ
separation_text listed state demand = cond (nat_eq state 0) (unlinked_text demand) (failure_text listed state demand)

-- the line above an outcome of several: its caller, and which of the caller's plan commands it is of
abbrev pub numbers_line : ℕ → ℕ → List ℕ
numbers_line caller serial = codes "\n  Caller " ++ decimal caller ++ codes ", plan " ++ decimal serial ++ codes "\n\n"

-- the same of an outcome
abbrev pub numbers_text : Outcome → List ℕ
numbers_text (Planned caller serial plan) = numbers_line caller serial
numbers_text (Unsurvivable caller serial version position state demand) = numbers_line caller serial

-- the cells of an outcome in the table of several: its caller, its number, its version, and a plan's cost and bound
abbrev pub outcome_cells : Places → Outcome → List (List ℕ)
outcome_cells places (Planned caller serial plan) =
    decimal caller ∷ decimal serial ∷ decimal plan.version ∷ money_word places plan.cost ∷ money_word places plan.bound ∷ []
outcome_cells places (Unsurvivable caller serial version position state demand) =
    decimal caller ∷ decimal serial ∷ decimal version ∷ codes "-" ∷ codes "-" ∷ []

-- the heads of the columns
abbrev pub outcome_heads : List (List ℕ)
outcome_heads = codes "Caller" ∷ codes "Plan" ∷ codes "Version" ∷ codes "Cost" ∷ codes "Bound" ∷ []

-- the table of several outcomes
abbrev pub HasOutcomes : Places → List Outcome → List ℕ → Type 0
HasOutcomes places outcomes text = HasRows (outcome_heads ∷ map (outcome_cells places) outcomes) text
