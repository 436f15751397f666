-- the cells of what links carry in a state, and of the paths that demands take there
use Rattle.std.{specs.Prelude.{ℕ, List, [], ◌∷◌, codes, map, slice_get}, specs.Option.option_map_or}
use Rattle.plan_view.{specs.declared.link_flows.FlowRow.FlowRow, specs.declared.rows.LoadRow.LoadRow}
use Rattle.plan_report.specs.Terms.{demand_name, node_name}
use Rattle.plan_terms.specs.Terms.{Demand, Link, Places}
use Rattle.text_kit.specs.Terms.{money_word}
use Rattle.view_cells.specs.Terms.{joined_words, per_cent}

-- the cells of a link: name, both ends, load, and use
abbrev pub loaded_cells : Places → List (List ℕ) → Link → LoadRow → List (List ℕ)
loaded_cells places nodes link row = link.name ∷ node_name nodes link.a ∷ node_name nodes link.b ∷ money_word places row.load ∷ per_cent row.used ∷ []

-- the cells of the row of a link, which the row names
abbrev pub load_cells : Places → List (List ℕ) → List Link → LoadRow → List (List ℕ)
load_cells places nodes links row = option_map_or (λ link. loaded_cells places nodes link row) (slice_get links row.link.0) []

-- the heads of these columns
abbrev pub load_heads : List (List ℕ)
load_heads = codes "Link" ∷ codes "From" ∷ codes "To" ∷ codes "Load" ∷ codes "Used" ∷ []

-- the cells of a path: the demand, the amount that takes it, and its nodes
abbrev pub path_cells : Places → List (List ℕ) → List Demand → FlowRow → List (List ℕ)
path_cells places nodes demands row =
    demand_name demands row.demand ∷ money_word places row.amount ∷ joined_words (codes " - ") (map (node_name nodes) row.nodes) ∷ []

-- the heads of these columns
abbrev pub path_heads : List (List ℕ)
path_heads = codes "Demand" ∷ codes "Amount" ∷ codes "Path" ∷ []
