-- the text of a network with three places and its demands, in SNDlib's native format
use Rattle.std.{specs.Prelude.{◌≡◌, ℕ, ◌==◌, not, false, List, [], ◌∷◌, ◌++◌, flat_map, codes}, specs.List.list_any}
use Rattle.plan_terms.specs.Terms.{Demand, Link, Network, Three}
use Rattle.sndlib_reader.{specs.declared.costs.CostedLink.CostedLink, specs.Spelling.{node_pair_items, header, link_items}}
use Rattle.text_kit.specs.Terms.{Item, Verbatim, money_word, written, section}

-- A file can be written that gives these notes: the costs that links keep are those of modules and of setup.
pub record HasWritableNotes (net : Network) : Type 0 where
  pub fixed_cost : net.notes.fixed_cost ≡ false
  pub routing_cost : net.notes.routing_cost ≡ false
  pub setup_cost : net.notes.setup_cost ≡ list_any (λ l. not (l.setup == 0)) net.links

-- a link without a cost of its pre-installed capacity or of routing
abbrev pub costless : Link → CostedLink
costless l = record { link = l; fixed_cost = 0; routing_cost = 0 }

-- such a link as the file has it, its ends by the names of the nodes
abbrev pub costless_items : List (List ℕ) → Link → List Item
costless_items nodes l = link_items Three nodes (costless l)

-- a demand of one unit, on paths of any length: its name, its ends, the unit and its need
abbrev pub unit_demand_items : List (List ℕ) → Demand → List Item
unit_demand_items nodes d =
    Verbatim d.name ∷ node_pair_items nodes d.from d.to ++ Verbatim (codes "1") ∷ Verbatim (money_word Three d.need) ∷ Verbatim (codes "UNLIMITED") ∷ []

-- the sections of nodes, links and demands
abbrev pub network_items : List (List ℕ) → List Link → List Demand → List Item
network_items nodes links demands =
    section (codes "NODES") (flat_map (λ n. Verbatim n ∷ []) nodes)
    ++ (section (codes "LINKS") (flat_map (costless_items nodes) links) ++ section (codes "DEMANDS") (flat_map (unit_demand_items nodes) demands))

-- the text of a network: the first line, and after it the sections as they are written
abbrev pub network_text : Network → List Demand → List ℕ
network_text net demands = header ++ 10 ∷ written (network_items net.nodes net.links demands)
