-- The grammar of a network file: which items spell which network and demands.
use Rattle.std.{specs.Prelude.{◌≡◌, ℕ, ◌*◌, ◌≤◌, ◌<◌, ◌^◌, ◌==◌, ◌⊎◌, not, Bool, true, false, List, [], ◌∷◌, ◌++◌, length, get_or, map, flat_map, All, IsTrue, Ok, codes}, specs.List.list_any}
use Rattle.snd_tokens.specs.Terms.{amount_of, units_of, are_digits}
use Rattle.net_core.{specs.Terms.{IsNetwork, AreDemands}, specs.declared.ids.NodeId.NodeId, specs.declared.network.Module.Module, specs.declared.network.Link.Link, specs.declared.network.Notes.Notes, specs.declared.network.Network.Network, specs.declared.places.Places.Places, specs.declared.demand.Demand.Demand, specs.Limits.name_bytes}
use Rattle.text_kit.specs.Terms.{Item, Verbatim, Money, Opening, Closing, ComeAfter, AreSpelled, section}
use Rattle.sndlib_reader.{specs.declared.costs.CostedLink.CostedLink, specs.Balance.IsSkipped, specs.Paths.ArePaths}

-- an entry of the list of nodes: a node's name, or the coordinates of the node before them
pub data NodePart : Type 0 where
  NodeName : List ℕ → NodePart
  Coordinates : NodePart

-- the names of the nodes
abbrev pub names_of : List NodePart → List (List ℕ)
names_of [] = []
names_of (NodeName name ∷ parts) = name ∷ names_of parts
names_of (Coordinates ∷ parts) = names_of parts

-- the last part is a name, or this where there is none
abbrev pub ends_named : Bool → List NodePart → Bool
ends_named named [] = named
ends_named named (NodeName name ∷ parts) = ends_named true parts
ends_named named (Coordinates ∷ parts) = ends_named false parts

-- names have at most 255 bytes, and coordinates come right after a name
abbrev pub IsPartAfter : List NodePart → NodePart → Type 0
IsPartAfter sofar (NodeName name) = length name ≤ name_bytes
IsPartAfter sofar Coordinates = IsTrue (ends_named false sofar)

-- coordinates are anything that balances, between parentheses
abbrev pub SpellsPart : NodePart → List Item → Type 0
SpellsPart (NodeName name) items = items ≡ Verbatim name ∷ []
SpellsPart Coordinates items = (inside : List Item) × IsSkipped inside × (items ≡ Opening ∷ inside)

-- the names of two nodes between parentheses
abbrev pub node_pair_items : List (List ℕ) → NodeId → NodeId → List Item
node_pair_items nodes a b = Opening ∷ Verbatim (get_or nodes a.0 []) ∷ Verbatim (get_or nodes b.0 []) ∷ Closing ∷ []

-- a module: its capacity and its cost, in a network with places p
abbrev pub module_items : Places → Module → List Item
module_items p m = Money p m.capacity ∷ Money p m.cost ∷ []

-- a link: its name, its ends, its pre-installed capacity and the cost of that, its routing cost, its setup cost, and its modules
abbrev pub link_items : Places → List (List ℕ) → CostedLink → List Item
link_items p nodes l =
    Verbatim l.link.name ∷ node_pair_items nodes l.link.a l.link.b
    ++ Money p l.link.fixed ∷ Money p l.fixed_cost ∷ Money p l.routing_cost ∷ Money p l.link.setup ∷ Opening
    ∷ (flat_map (module_items p) l.link.modules ++ Closing ∷ [])

-- what isn't kept of a link is in its range: its name and the two further costs
pub record IsShortLink (l : CostedLink) : Type 0 where
  pub name : length l.link.name ≤ name_bytes
  pub fixed_cost : l.fixed_cost < 2 ^ 40
  pub routing_cost : l.routing_cost < 2 ^ 40

-- how many links a path may have: `UNLIMITED`, or digits
abbrev pub IsHops : List ℕ → Type 0
IsHops w = (w ≡ codes "UNLIMITED") ⊎ IsTrue (are_digits w)

-- a demand: its name, its ends, a whole number of units of an amount, and its hops
pub record SpellsDemand (p : Places) (nodes : List (List ℕ)) (d : Demand) (items : List Item) : Type 0 where
  pub unit : List ℕ
  pub amount : List ℕ
  pub hops : List ℕ
  pub units : ℕ
  pub each : ℕ
  pub short : length d.name ≤ name_bytes
  pub items_are : items ≡ Verbatim d.name ∷ node_pair_items nodes d.from d.to ++ Verbatim unit ∷ Verbatim amount ∷ Verbatim hops ∷ []
  pub unit_is : units_of p unit ≡ Ok units
  pub amount_is : amount_of p amount ≡ Ok each
  pub need_is : d.need ≡ units * each
  pub hops_are : IsHops hops

-- which of the costs beside those of modules some link has
abbrev pub notes_of : List CostedLink → Notes
notes_of links = record {
  fixed_cost = list_any (λ l. not (l.fixed_cost == 0)) links;
  routing_cost = list_any (λ l. not (l.routing_cost == 0)) links;
  setup_cost = list_any (λ l. not (l.link.setup == 0)) links;
}

-- a section META of anything, or nothing
abbrev pub IsMeta : List Item → Type 0
IsMeta items = (items ≡ []) ⊎ ((inside : List Item) × IsSkipped inside × (items ≡ Verbatim (codes "META") ∷ Opening ∷ inside))

-- what the sections of nodes and links say, and in which places
pub record Parts : Type 0 where
  pub nodes : List (List ℕ)
  pub links : List Link
  pub notes : Notes
  pub places : Places

-- the parts of a network
abbrev pub parts_of : Network → Parts
parts_of net = record { nodes = net.nodes; links = net.links; notes = net.notes; places = net.places }

-- perhaps META, the sections of nodes, links and demands, and perhaps paths: a network with places p, and demands that belong to it
pub record SpellsParts (p : Places) (x : Parts × List Demand) (items : List Item) : Type 0 where
  pub meta : List Item
  pub parts : List NodePart
  pub part_items : List Item
  pub links : List CostedLink
  pub demand_items : List Item
  pub paths : List Item
  pub items_are : items ≡ meta ++ (section (codes "NODES") part_items
      ++ (section (codes "LINKS") (flat_map (link_items p x.0.nodes) links) ++ (section (codes "DEMANDS") demand_items ++ paths)))
  pub meta_is : IsMeta meta
  pub parts_are : AreSpelled SpellsPart parts part_items
  pub parts_in_order : ComeAfter IsPartAfter [] parts
  pub nodes_are : names_of parts ≡ x.0.nodes
  pub links_are : map (λ l. l.link) links ≡ x.0.links
  pub links_short : All IsShortLink links
  pub notes_are : notes_of links ≡ x.0.notes
  pub places_are : p ≡ x.0.places
  pub network : IsNetwork x.0.nodes x.0.links
  pub demands_are : AreSpelled (SpellsDemand p x.0.nodes) x.1 demand_items
  pub belong : AreDemands (length x.0.nodes) x.1
  pub paths_are : ArePaths (map (λ l. l.link.name) links) (map (λ d. d.name) x.1) paths

-- the first line of a network file
abbrev pub header : List ℕ
header = codes "?SNDlib native format; type: network; version: 1.0"
