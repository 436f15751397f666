-- the fields of the rows of links, states and flows: their numbers are those of the rows
use Rattle.std.{specs.Prelude.{ℕ, ◌/◌, ◌%◌, List, [], ◌∷◌, ◌++◌, Option, None, Some, codes, decimal, map, slice_get}, specs.Option.option_map_or}
use Rattle.plan_view.{specs.declared.link_flows.FlowRow.FlowRow, specs.declared.rows.LinkRow.LinkRow, specs.declared.rows.StateRow.StateRow}
use Rattle.plan_report.specs.Terms.{KnownNames, demand_name, node_name, state_name}
use Rattle.plan_terms.specs.Terms.{Demand, Link, LinkId, NodeId, link_name}
use Rattle.text_kit.specs.Terms.{money_word}
use Rattle.view_cells.specs.Terms.{joined_words, kinds_words}

-- the fields of a row of a plan: its caller and its number, and these
abbrev pub with_plan : ℕ → ℕ → List (List ℕ) → List (List ℕ)
with_plan caller serial fields = decimal caller ∷ decimal serial ∷ fields

-- names with a space between each two; nothing where there are none
abbrev pub names_field : List (List ℕ) → List ℕ
names_field [] = []
names_field (w ∷ ws) = joined_words (codes " ") (w ∷ ws)

-- the names of links
abbrev pub link_names : List Link → List LinkId → List ℕ
link_names links es = names_field (map (link_name links) es)

-- the names of nodes
abbrev pub node_names : List (List ℕ) → List NodeId → List ℕ
node_names nodes ns = names_field (map (node_name nodes) ns)

-- tenths as a number with one place
abbrev pub tenths_word : ℕ → List ℕ
tenths_word n = decimal (n / 10) ++ codes "." ++ decimal (n % 10)

-- the fields of a link: name, ends, modules, capacity, load without failures, greatest load, use in per cent, its state, and cost
abbrev pub fields_of_link : KnownNames → Link → LinkRow → List (List ℕ)
fields_of_link known link row =
    link.name
    ∷ node_name known.nodes link.a
    ∷ node_name known.nodes link.b
    ∷ joined_words (codes " + ") (kinds_words known.places link.modules row.modules)
    ∷ money_word known.places row.capacity
    ∷ money_word known.places row.normal
    ∷ money_word known.places row.worst
    ∷ decimal row.used
    ∷ state_name known.listed row.state.0
    ∷ money_word known.places row.cost
    ∷ []

-- the fields of the row of a link, which the row names
abbrev pub link_fields : KnownNames → LinkRow → List (List ℕ)
link_fields known row = option_map_or (λ link. fields_of_link known link row) (slice_get known.links row.link.0) []

-- the name of the fullest link; nothing where no link has a load
abbrev pub fullest_field : List Link → Option LinkId → List ℕ
fullest_field links None = []
fullest_field links (Some e) = link_name links e

-- the fields of a state: name, failed links, rerouted amount, fullest link, its use in per cent, and the part of the bound in per cent
abbrev pub state_fields : KnownNames → StateRow → List (List ℕ)
state_fields known row =
    state_name known.listed row.state.0
    ∷ link_names known.links row.failed
    ∷ money_word known.places row.rerouted
    ∷ fullest_field known.links row.fullest
    ∷ decimal row.used
    ∷ tenths_word row.part
    ∷ []

-- the names of a demand's ends
abbrev pub ends_fields : List (List ℕ) → List Demand → ℕ → List (List ℕ)
ends_fields nodes demands k = option_map_or (λ d. node_name nodes d.from ∷ node_name nodes d.to ∷ []) (slice_get demands k) ([] ∷ [] ∷ [])

-- the fields of a flow in state s: the state's name, the demand and its ends, the amount, and the nodes and links of its path
abbrev pub flow_fields : KnownNames → List Demand → ℕ → FlowRow → List (List ℕ)
flow_fields known demands s row =
    state_name known.listed s
    ∷ demand_name demands row.demand
    ∷ ends_fields known.nodes demands row.demand
    ++ money_word known.places row.amount
    ∷ node_names known.nodes row.nodes
    ∷ link_names known.links row.path
    ∷ []
