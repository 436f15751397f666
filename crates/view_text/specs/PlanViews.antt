-- what people read of a plan: the tables of its rows
use Rattle.std.specs.Prelude.{◌≡◌, ℕ, ◌+◌, List, [], ◌∷◌, ◌++◌, codes, decimal, length, map}
use Rattle.plan_terms.specs.Terms.{Case, Places}
use Rattle.plan_report.specs.Terms.{KnownNames, known_to, Plan, Quality}
use Rattle.plan_view.{specs.Terms.{AreLinkRows, AreStateRows, IsPlanSummary}, specs.declared.rows.LinkRow.LinkRow, specs.declared.rows.PlanSummary.PlanSummary, specs.declared.rows.StateRow.StateRow}
use Rattle.view_cells.specs.Terms.{HasRows, HasRowsAbove}
use Rattle.view_text.{specs.CostCells.{cost_rows, least_text}, specs.CostProofs.HoldsProof, specs.LinkCells.{cells_of_link, link_heads, total_cells}, specs.StateCells.{state_cells, state_heads}, specs.declared.proof.CostProof.CostProof}

-- in how many states the modules of an accepted plan carry the demands: in all of them
abbrev pub states_line : ℕ → List ℕ
states_line states = codes "  accepted: the modules carry every demand in " ++ decimal states ++ codes " of " ++ decimal states ++ codes " states, and "

-- the line of an accepted plan: that number of states, and what no plan undercuts
abbrev pub accepted_text : Places → PlanSummary → CostProof → List ℕ
accepted_text places whole proof = states_line whole.states ++ least_text places whole proof ++ codes "\n"

-- The text has these rows of a plan: its costs, its links with their total, its states, and the line of an accepted plan.
pub record ShowsRows (known : KnownNames) (quality : Quality) (proof : CostProof) (links : List LinkRow) (states : List StateRow) (whole : PlanSummary)
    (text : List ℕ) : Type 0 where
  pub costs_part : List ℕ
  pub links_part : List ℕ
  pub states_part : List ℕ
  pub has_costs : HasRows (cost_rows known.places whole quality proof) costs_part
  pub has_links : HasRowsAbove (link_heads ∷ map (cells_of_link known) links) (total_cells known.places whole ∷ []) links_part
  pub has_states : HasRowsAbove (state_heads ∷ []) (map (state_cells known) states) states_part
  pub printed : text ≡ costs_part ++ codes "\n" ++ links_part ++ codes "\n" ++ states_part ++ codes "\n" ++ accepted_text known.places whole proof

-- The text of a plan: its numbers are those of its rows, which have the definitions' numbers of each link, each state and the whole plan.
pub record IsPlanView (p : Case) (plan : Plan) (proof : CostProof) (text : List ℕ) : Type 0 where
  pub links : List LinkRow
  pub states : List StateRow
  pub whole : PlanSummary
  pub are_links : AreLinkRows p.links plan (length p.links) links
  pub are_states : AreStateRows p plan (length p.listed + 1) states
  pub is_whole : IsPlanSummary p plan whole
  pub holds : HoldsProof p plan proof
  pub shown : ShowsRows (known_to p) plan.quality proof links states whole text

-- The text of a plan's costs: its numbers are those of the whole plan.
pub record IsCostView (p : Case) (plan : Plan) (proof : CostProof) (text : List ℕ) : Type 0 where
  pub whole : PlanSummary
  pub is_whole : IsPlanSummary p plan whole
  pub holds : HoldsProof p plan proof
  pub shown : HasRows (cost_rows p.places whole plan.quality proof) text
