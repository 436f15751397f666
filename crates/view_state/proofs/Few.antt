-- how many cells rows have
use Rattle.std.proofs.Common.{ℕ, ◌≤◌, List, [], ◌∷◌, Option, None, Some, All, arith, length, map, slice_get}
use Rattle.net_core.proofs.Library.{All-from_recursion, option_map_or}
use Rattle.plan_view.{specs.declared.link_flows.FlowRow.FlowRow, specs.declared.rows.LoadRow.LoadRow}
use Rattle.plan_terms.specs.Terms.{Demand, Link, Places}
use Rattle.view_cells.proofs.Few.{each_fits, fits}
use Rattle.view_state.specs.StateTables.{load_cells, load_heads, loaded_cells, path_cells, path_heads}

load_fits : (places : Places) (nodes : List (List ℕ)) (row : LoadRow) (o : Option Link)
    → length (option_map_or (λ link. loaded_cells places nodes link row) o []) ≤ 5
load_fits places nodes row None = omega arith
load_fits places nodes row (Some link) = omega arith

pub loads_fit : (places : Places) (nodes : List (List ℕ)) (links : List Link) (rows : List LoadRow)
    → All (λ row. length row ≤ 5) (load_heads ∷ map (load_cells places nodes links) rows)
loads_fit places nodes links rows = All-from_recursion (fits 5) (load_heads ∷ map (load_cells places nodes links) rows)
    (omega arith, each_fits (load_cells places nodes links) 5 (λ row. load_fits places nodes row (slice_get links row.link.0)) rows)

pub paths_fit : (places : Places) (nodes : List (List ℕ)) (demands : List Demand) (rows : List FlowRow)
    → All (λ row. length row ≤ 3) (path_heads ∷ map (path_cells places nodes demands) rows)
paths_fit places nodes demands rows = All-from_recursion (fits 3) (path_heads ∷ map (path_cells places nodes demands) rows)
    (omega arith, each_fits (path_cells places nodes demands) 3 (λ row. omega arith) rows)
