-- how many cells rows have
use Rattle.std.proofs.Common.{ℕ, ◌≤◌, List, [], ◌∷◌, Option, None, Some, All, arith, length, map, slice_get}
use Rattle.net_core.proofs.Library.{AllByRecursion, All-from_recursion, option_map_or}
use Rattle.plan_report.specs.Terms.{KnownNames, Outcome, Planned, Unsurvivable}
use Rattle.plan_terms.specs.Terms.{Link, Places}
use Rattle.plan_view.{specs.declared.rows.LinkRow.LinkRow, specs.declared.rows.StateRow.StateRow}
use Rattle.view_cells.proofs.Few.{each_fits, fits}
use Rattle.view_text.{specs.LinkCells.{cells_of_link, link_cells, link_heads}, specs.OutcomeCells.{outcome_cells, outcome_heads}, specs.StateCells.state_cells}

cells_fit : (known : KnownNames) (row : LinkRow) (o : Option Link) → length (option_map_or (λ link. link_cells known link row) o []) ≤ 9
cells_fit known row None = omega arith
cells_fit known row (Some link) = omega arith

pub links_fit : (known : KnownNames) (rows : List LinkRow) → All (λ row. length row ≤ 9) (link_heads ∷ map (cells_of_link known) rows)
links_fit known rows = All-from_recursion (fits 9) (link_heads ∷ map (cells_of_link known) rows)
    (omega arith, each_fits (cells_of_link known) 9 (λ row. cells_fit known row (slice_get known.links row.link.0)) rows)

pub states_fit : (known : KnownNames) (rows : List StateRow) → All (λ row. length row ≤ 6) (map (state_cells known) rows)
states_fit known rows = All-from_recursion (fits 6) (map (state_cells known) rows) (each_fits (state_cells known) 6 (λ row. omega arith) rows)

outcome_fits : (places : Places) (outcome : Outcome) → length (outcome_cells places outcome) ≤ 5
outcome_fits places (Planned caller serial plan) = omega arith
outcome_fits places (Unsurvivable caller serial version position state demand) = omega arith

pub outcomes_fit : (places : Places) (outcomes : List Outcome) → All (λ row. length row ≤ 5) (outcome_heads ∷ map (outcome_cells places) outcomes)
outcomes_fit places outcomes = All-from_recursion (fits 5) (outcome_heads ∷ map (outcome_cells places) outcomes)
    (omega arith, each_fits (outcome_cells places) 5 (outcome_fits places) outcomes)
