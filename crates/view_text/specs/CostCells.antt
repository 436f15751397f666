-- the cells of a plan's cost, its bound and its fractional value
use Rattle.std.specs.Prelude.{ℕ, List, [], ◌∷◌, ◌++◌, cond, codes, max, nat_eq}
use Rattle.plan_terms.specs.Terms.{Places}
use Rattle.plan_report.specs.Terms.{Cuts, Wide, Quality, Tight, Loose}
use Rattle.plan_view.specs.declared.rows.PlanSummary.{PlanSummary}
use Rattle.text_kit.specs.Terms.{money_word}
use Rattle.view_cells.specs.Terms.{counted, tenths_per_cent}
use Rattle.view_text.{specs.declared.proof.CostProof.CostProof, specs.declared.proof.CostProof.TheVariants.{Nothing, Cheapest, Above}}

-- what no plan undercuts, by the bound and the branch tree
abbrev pub least_known : PlanSummary → CostProof → ℕ
least_known whole Nothing = whole.bound
least_known whole (Cheapest boxes) = whole.cost
least_known whole (Above boxes least) = max whole.bound least

-- that no plan undercuts it
abbrev pub least_text : Places → PlanSummary → CostProof → List ℕ
least_text places whole proof = codes "no plan costs less than " ++ money_word places (least_known whole proof)

-- of how many boxes a branch tree is
abbrev pub tree_text : ℕ → List ℕ
tree_text boxes = codes " (branch tree of " ++ counted boxes (codes "box") (codes "boxes") ++ codes ")"

-- what is known of the cost; without a branch tree it is cheapest where it is the bound
abbrev pub cost_text : Places → PlanSummary → CostProof → List ℕ
cost_text places whole (Cheapest boxes) = codes "cheapest" ++ tree_text boxes
cost_text places whole (Above boxes least) = least_text places whole (Above boxes least) ++ tree_text boxes
cost_text places whole Nothing = cond (nat_eq whole.gap 0) (codes "cheapest (it is the bound)") (codes "not shown to be cheapest")

-- how far the cost is above the bound
abbrev pub gap_text : ℕ → List ℕ
gap_text gap = codes "by one certificate of cuts; " ++ cond (nat_eq gap 0) (codes "no gap") (codes "gap " ++ tenths_per_cent gap)

-- whether a greater fractional value may be found
abbrev pub value_text : Quality → List ℕ
value_text (Tight fractions) = codes "no certificate of cuts gives more"
value_text (Loose Cuts) = codes "the search ended early: there was no room for a further cut"
value_text (Loose (Wide evidence)) = codes "the search ended early: a number grew too wide"

-- a row of an amount of money: what it is, how much, and why
abbrev pub cost_row : Places → List ℕ → ℕ → List ℕ → List (List ℕ)
cost_row places what cost why = what ∷ money_word places cost ∷ why ∷ []

-- the rows of the cost, the bound and the fractional value
abbrev pub cost_rows : Places → PlanSummary → Quality → CostProof → List (List (List ℕ))
cost_rows places whole quality proof =
    cost_row places (codes "cost") whole.cost (cost_text places whole proof)
    ∷ cost_row places (codes "at least") whole.bound (gap_text whole.gap)
    ∷ cost_row places (codes "fractional") whole.raw (value_text quality)
    ∷ []
