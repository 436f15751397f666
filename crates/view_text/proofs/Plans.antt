-- views of plans, part after part
use Rattle.std.proofs.Common.{◌≡◌, ℕ, List, [], ◌∷◌, ◌++◌, append_assoc, codes, map, refl}
use Rattle.plan_report.specs.Terms.{KnownNames, known_to, Plan, Quality}
use Rattle.plan_terms.specs.Terms.{Case}
use Rattle.plan_view.{specs.declared.rows.LinkRow.LinkRow, specs.declared.rows.PlanSummary.PlanSummary, specs.declared.rows.StateRow.StateRow}
use Rattle.text_kit.specs.Terms.{AddsText}
use Rattle.view_cells.specs.Terms.{HasRows, HasRowsAbove}
use Rattle.view_text.{specs.CostCells.cost_rows, specs.CostProofs.HoldsProof, specs.LinkCells.{cells_of_link, link_heads, total_cells}, specs.PlanViews.{IsPlanView, ShowsRows, accepted_text}, specs.StateCells.{state_cells, state_heads}, specs.declared.plan.PlanNumbers.PlanNumbers, specs.declared.proof.CostProof.CostProof, specs.inner.Numbers.AreNumbers}

pub rows_shown : (known : KnownNames) (quality : Quality) (proof : CostProof) (links : List LinkRow) (states : List StateRow) (whole : PlanSummary)
    (old costs links_part states_part first second third new : List ℕ)
    → HasRows (cost_rows known.places whole quality proof) costs
    → HasRowsAbove (link_heads ∷ map (cells_of_link known) links) (total_cells known.places whole ∷ []) links_part
    → HasRowsAbove (state_heads ∷ []) (map (state_cells known) states) states_part
    → first ≡ (old ++ costs) ++ codes "\n" → second ≡ (first ++ links_part) ++ codes "\n" → third ≡ (second ++ states_part) ++ codes "\n"
    → new ≡ third ++ accepted_text known.places whole proof
    → AddsText (ShowsRows known quality proof links states whole) old new
rows_shown known quality proof links states whole old costs links_part states_part first second third new hc hl hs p q r s = (
  costs ++ codes "\n" ++ links_part ++ codes "\n" ++ states_part ++ codes "\n" ++ accepted_text known.places whole proof,
  record { costs_part = costs; links_part = links_part; states_part = states_part; has_costs = hc; has_links = hl; has_states = hs; printed = refl },
  simp (s, r, q, p, append_assoc) refl,
)

pub plan_shown : (p : Case) (plan : Plan) (proof : CostProof) (numbers : PlanNumbers) (old new : List ℕ) → AreNumbers p plan numbers → HoldsProof p plan proof
    → AddsText (ShowsRows (known_to p) plan.quality proof numbers.links numbers.states numbers.whole) old new → AddsText (IsPlanView p plan proof) old new
plan_shown p plan proof numbers old new are holds shown = (
  shown.0,
  record {
    links = numbers.links;
    states = numbers.states;
    whole = numbers.whole;
    are_links = are.are_links;
    are_states = are.are_states;
    is_whole = are.is_whole;
    holds = holds;
    shown = shown.1;
  },
  shown.2,
)
