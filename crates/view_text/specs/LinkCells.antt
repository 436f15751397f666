-- the cells of a link's row: its numbers are those of the row
use Rattle.std.{specs.Prelude.{◌++◌, List, [], ◌∷◌, codes, slice_get, ℕ}, specs.Option.option_map_or}
use Rattle.text_kit.specs.Terms.{money_word}
use Rattle.plan_report.specs.Terms.{KnownNames, node_name, state_name}
use Rattle.plan_terms.specs.Terms.{Link, Places}
use Rattle.plan_view.{specs.declared.rows.LinkRow.LinkRow, specs.declared.rows.PlanSummary.PlanSummary}
use Rattle.view_cells.specs.Terms.{joined_words, kinds_words, per_cent}

-- the names of a link's ends
abbrev pub ends_text : List (List ℕ) → Link → List ℕ
ends_text nodes link = node_name nodes link.a ++ codes " - " ++ node_name nodes link.b

-- the cells of a link: name, ends, modules, capacity, load without failures, greatest load, use, its state, and cost
abbrev pub link_cells : KnownNames → Link → LinkRow → List (List ℕ)
link_cells known link row =
    link.name
    ∷ ends_text known.nodes link
    ∷ joined_words (codes " + ") (kinds_words known.places link.modules row.modules)
    ∷ money_word known.places row.capacity
    ∷ money_word known.places row.normal
    ∷ money_word known.places row.worst
    ∷ per_cent row.used
    ∷ state_name known.listed row.state.0
    ∷ money_word known.places row.cost
    ∷ []

-- the cells of the row of a link, which the row names
abbrev pub cells_of_link : KnownNames → LinkRow → List (List ℕ)
cells_of_link known row = option_map_or (λ link. link_cells known link row) (slice_get known.links row.link.0) []

-- the heads of the columns
abbrev pub link_heads : List (List ℕ)
link_heads =
    codes "Link" ∷ codes "Ends" ∷ codes "Modules" ∷ codes "Capacity" ∷ codes "Normal" ∷ codes "Worst" ∷ codes "Used" ∷ codes "In state" ∷ codes "Cost" ∷ []

-- what all links have together: capacity, load without failures, and cost
abbrev pub total_cells : Places → PlanSummary → List (List ℕ)
total_cells places whole =
    codes "total" ∷ money_word places whole.capacity ∷ money_word places whole.normal ∷ [] ∷ [] ∷ [] ∷ money_word places whole.cost ∷ []
