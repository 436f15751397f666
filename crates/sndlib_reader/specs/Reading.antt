-- Reading a network file from left to right: the tests of its words, and their order.
use Rattle.std.specs.Prelude.{ℕ, zero, suc, ◌+◌, ◌*◌, ◌^◌, ◌==◌, nat_lt, Bool, true, false, ◌||◌, ◌&&◌, if◌then◌else◌, List, [], length, map, Option, Some, None, Result, Ok, Err, codes}
use Rattle.snd_tokens.{specs.declared.amounts.NumberFault.TheVariants.{NotANumber, TooLarge}, specs.Terms.{amount_of, units_of, are_digits, WordAt, OpenAt, CloseAt, EndAt}}
use Rattle.net_core.{specs.Terms.{are_same, is_named, total_need}, specs.declared.ids.NodeId.NodeId, specs.declared.network.Module.Module, specs.declared.places.Places.Places, specs.declared.demand.Demand.Demand, specs.Limits.{most_demands, most_links, most_modules, most_nodes, name_bytes}}
use Rattle.text_kit.specs.Terms.{long_name_fault, named_place, new_name_fault, number_or, Reading, ◌>>=◌, give, step_at, word_at, open_at, close_at, end_at, expected, mapped, Parenthesis, sound, list_at, no_fault, each_at}
use Rattle.sndlib_reader.{specs.declared.fault.ReadKind.ReadKind, specs.declared.fault.ReadKind.TheVariants.{Section, Token, Ended, Limit, Number, UnknownName, DoubleName, SelfLink, SelfDemand, ZeroModule, FixedLink}, specs.declared.costs.CostedLink.CostedLink, specs.declared.demand.DemandRest.DemandRest, specs.declared.link.LinkNumbers.LinkNumbers, specs.declared.link.LinkRest.LinkRest, specs.Spelling.{NodePart, NodeName, Coordinates, names_of, ends_named, notes_of, Parts}}
use Rattle.sndlib_reader.specs.declared.fault.Limited.TheVariants as limits

-- ---- what a word says

-- a node's name after earlier ones
abbrev pub node_fault : List (List ℕ) → List ℕ → Option ReadKind
node_fault sofar w = new_name_fault (Limit limits.Name) DoubleName (Limit limits.Nodes) most_nodes (length sofar) (is_named (λ n. n) w sofar) w

-- a link's name after earlier ones
abbrev pub link_fault : List CostedLink → List ℕ → Option ReadKind
link_fault sofar w = new_name_fault (Limit limits.Name) DoubleName (Limit limits.Links) most_links (length sofar) (is_named (λ l. l.link.name) w sofar) w

-- a demand's name after earlier ones
abbrev pub demand_fault : List Demand → List ℕ → Option ReadKind
demand_fault sofar w = new_name_fault (Limit limits.Name) DoubleName (Limit limits.Demands) most_demands (length sofar) (is_named (λ d. d.name) w sofar) w

-- any name
abbrev pub path_name : List ℕ → Result (Unit {0}) ReadKind
path_name w = sound tt (long_name_fault (Limit limits.Name) w)

-- one of these names
abbrev pub known_name : List (List ℕ) → List ℕ → Result (Unit {0}) ReadKind
known_name names w =
    if nat_lt name_bytes (length w) then Err (Limit limits.Name)
    else (if is_named (λ n. n) w names then Ok tt else Err UnknownName)

-- the place of the node that has a name
abbrev pub node_named : List (List ℕ) → List ℕ → Result ℕ ReadKind
node_named nodes = named_place (λ n. n) (Limit limits.Name) UnknownName nodes

-- a place other than a
abbrev pub apart : ReadKind → ℕ → Result ℕ ReadKind → Result ℕ ReadKind
apart kind a (Ok b) = if a == b then Err kind else Ok b
apart kind a (Err fault) = Err fault

-- the place of the node that has a name, other than a
abbrev pub other_node : ReadKind → List (List ℕ) → ℕ → List ℕ → Result ℕ ReadKind
other_node kind nodes a w = apart kind a (node_named nodes w)

-- an amount in a network with places p, and a whole number of units
abbrev pub amount : Places → List ℕ → Result ℕ ReadKind
amount p w = number_or Number (amount_of p w)

abbrev pub unit : Places → List ℕ → Result ℕ ReadKind
unit p w = number_or Number (units_of p w)

-- the capacity of a further module
abbrev pub carried : List Module → Result ℕ ReadKind → Result ℕ ReadKind
carried sofar (Ok n) = if n == 0 then Err ZeroModule else (if nat_lt (length sofar) most_modules then Ok n else Err (Limit limits.Modules))
carried sofar (Err fault) = Err fault

abbrev pub capacity : Places → List Module → List ℕ → Result ℕ ReadKind
capacity p sofar w = carried sofar (amount p w)

-- the need of a number of units of an amount, after demands of this total
abbrev pub wanted : ℕ → ℕ → Result ℕ ReadKind → Result ℕ ReadKind
wanted total units (Ok each) =
    if nat_lt (units * each) (2 ^ 40)
    then (if nat_lt (total + units * each) (2 ^ 44) then Ok (units * each) else Err (Limit limits.Total))
    else Err (Number TooLarge)
wanted total units (Err fault) = Err fault

abbrev pub need : Places → ℕ → ℕ → List ℕ → Result ℕ ReadKind
need p total units w = wanted total units (amount p w)

-- how many links a path may have
abbrev pub hops : List ℕ → Result (Unit {0}) ReadKind
hops w = if are_same w (codes "UNLIMITED") || are_digits w then Ok tt else Err (Number NotANumber)

-- ---- the order of words

-- what is skipped, up to the parenthesis that closes the last of n + 1 open ones
abbrev pub skipped_at : ℕ → Reading ReadKind (Unit {0})
skipped_at n (WordAt at w rest) = skipped_at n rest
skipped_at n (OpenAt at rest) = skipped_at (suc n) rest
skipped_at zero (CloseAt at rest) = Ok (tt, rest)
skipped_at (suc n) (CloseAt at rest) = skipped_at n rest
skipped_at n (EndAt at) = Err (at, Ended)

-- a section's word, the parenthesis after it, and what is in it
unfoldable pub native_section_at : {X : Type 0} → List ℕ → Reading ReadKind X → Reading ReadKind X
native_section_at name r = do
  _ ← word_at Section Ended (expected Section name)
  _ ← open_at Section Ended
  r

-- a name in the list of nodes
abbrev pub name_part : List NodePart → List ℕ → Result NodePart ReadKind
name_part sofar w = sound (NodeName w) (node_fault (names_of sofar) w)

-- an opening parenthesis there, right after a name
abbrev pub coordinates : List NodePart → Result NodePart ReadKind
coordinates sofar = if ends_named false sofar then Ok Coordinates else Err Token

-- what comes after it
abbrev pub part_after : NodePart → Reading ReadKind NodePart
part_after (NodeName name) = give (NodeName name)
part_after Coordinates = mapped (λ _. Coordinates) (skipped_at 0)

-- a further part of the list of nodes
unfoldable pub part_at : List NodePart → Reading ReadKind NodePart
part_at sofar = step_at (name_part sofar) (coordinates sofar) (Err Token) (Err Ended) >>= part_after

-- further nodes
abbrev pub native_nodes_at : List NodePart → Reading ReadKind (List (List ℕ))
native_nodes_at sofar = mapped names_of (list_at Parenthesis no_fault part_at sofar)

-- two different nodes between parentheses
unfoldable pub ends_at : ReadKind → List (List ℕ) → Reading ReadKind (NodeId × NodeId)
ends_at kind nodes = do
  _ ← open_at Token Ended
  a ← word_at Token Ended (node_named nodes)
  b ← word_at Token Ended (other_node kind nodes a)
  _ ← close_at Token Ended
  give (record { 0 = a }, record { 0 = b })

-- a module after others
unfoldable pub module_at : Places → List Module → Reading ReadKind Module
module_at p sofar = do
  capacity ← word_at Token Ended (capacity p sofar)
  cost ← word_at Token Ended (amount p)
  give (record { capacity = capacity; cost = cost })

-- pre-installed capacity without a module
abbrev pub unserved : ℕ → List Module → Option ReadKind
unserved fixed modules = if (length modules == 0) && nat_lt 0 fixed then Some FixedLink else None

-- the pre-installed capacity of a link and its costs
unfoldable pub link_numbers_at : Places → Reading ReadKind LinkNumbers
link_numbers_at p = do
  fixed ← word_at Token Ended (amount p)
  fixed_cost ← word_at Token Ended (amount p)
  routing_cost ← word_at Token Ended (amount p)
  setup ← word_at Token Ended (amount p)
  give (record { fixed = fixed; fixed_cost = fixed_cost; routing_cost = routing_cost; setup = setup })

-- what a link has after its name
unfoldable pub link_rest_at : Places → List (List ℕ) → Reading ReadKind LinkRest
link_rest_at p nodes = do
  ends ← ends_at SelfLink nodes
  numbers ← link_numbers_at p
  _ ← open_at Token Ended
  modules ← list_at Parenthesis (unserved numbers.fixed) (module_at p) []
  give (record { a = ends.0; b = ends.1; numbers = numbers; modules = modules })

-- the link of a name, with the two costs that aren't kept
abbrev pub named_link : List ℕ → LinkRest → CostedLink
named_link name rest = record {
  link = record { name = name; a = rest.a; b = rest.b; fixed = rest.numbers.fixed; setup = rest.numbers.setup; modules = rest.modules };
  fixed_cost = rest.numbers.fixed_cost;
  routing_cost = rest.numbers.routing_cost;
}

-- a link after others
unfoldable pub native_link_at : Places → List (List ℕ) → List CostedLink → Reading ReadKind CostedLink
native_link_at p nodes sofar = do
  name ← word_at Token Ended (λ w. sound w (link_fault sofar w))
  rest ← link_rest_at p nodes
  give (named_link name rest)

-- further links
abbrev pub costed_links_at : Places → List (List ℕ) → List CostedLink → Reading ReadKind (List CostedLink)
costed_links_at p nodes sofar = list_at Parenthesis no_fault (native_link_at p nodes) sofar

-- what a demand has after its name, after others of this total
unfoldable pub demand_rest_at : Places → List (List ℕ) → ℕ → Reading ReadKind DemandRest
demand_rest_at p nodes before = do
  ends ← ends_at SelfDemand nodes
  units ← word_at Token Ended (unit p)
  need ← word_at Token Ended (need p before units)
  _ ← word_at Token Ended hops
  give (record { from = ends.0; to = ends.1; need = need })

-- a demand after others
unfoldable pub native_demand_at : Places → List (List ℕ) → List Demand → Reading ReadKind Demand
native_demand_at p nodes sofar = do
  name ← word_at Token Ended (λ w. sound w (demand_fault sofar w))
  rest ← demand_rest_at p nodes (total_need sofar)
  give (record { name = name; from = rest.from; to = rest.to; need = rest.need })

-- further demands
abbrev pub native_demands_at : Places → List (List ℕ) → List Demand → Reading ReadKind (List Demand)
native_demands_at p nodes sofar = list_at Parenthesis no_fault (native_demand_at p nodes) sofar

-- one or more of a sort between parentheses, of which none is kept
unfoldable pub some_at : Reading ReadKind (Unit {0}) → Reading ReadKind (Unit {0})
some_at one = do
  _ ← open_at Token Ended
  _ ← one
  each_at one

-- a path's name and its links
abbrev pub native_path_at : List (List ℕ) → Reading ReadKind (Unit {0})
native_path_at links = word_at Token Ended path_name >>= λ _. some_at (word_at Token Ended (known_name links))

-- a demand's name and its paths
abbrev pub path_line_at : List (List ℕ) → List (List ℕ) → Reading ReadKind (Unit {0})
path_line_at links demands = word_at Token Ended (known_name demands) >>= λ _. some_at (native_path_at links)

-- ---- whole files

-- whether the first word begins META or NODES
abbrev pub is_meta : List ℕ → Result Bool ReadKind
is_meta w = if are_same w (codes "META") then Ok true else (if are_same w (codes "NODES") then Ok false else Err Section)

-- what comes after that word
unfoldable pub after_meta : Bool → Reading ReadKind (Unit {0})
after_meta true = do
  _ ← open_at Section Ended
  _ ← skipped_at 0
  word_at Section Ended (expected Section (codes "NODES"))
after_meta false = give tt

-- all before the parenthesis of NODES
abbrev pub start_at : Reading ReadKind (Unit {0})
start_at = word_at Section Ended is_meta >>= after_meta

-- the word of the section of paths
abbrev pub is_paths : List ℕ → Result Bool ReadKind
is_paths w = if are_same w (codes "ADMISSIBLE_PATHS") then Ok true else Err Section

-- what comes after that word, or after the end
unfoldable pub after_paths : List (List ℕ) → List (List ℕ) → Bool → Reading ReadKind (Unit {0})
after_paths links demands true = do
  _ ← open_at Section Ended
  _ ← each_at (path_line_at links demands)
  end_at Section
after_paths links demands false = give tt

-- that section and the end, or the end alone
abbrev pub paths_at : List (List ℕ) → List (List ℕ) → Reading ReadKind (Unit {0})
paths_at links demands = step_at is_paths (Err Section) (Err Section) (Ok false) >>= after_paths links demands

-- the parts of these nodes and links
abbrev pub parts : Places → List (List ℕ) → List CostedLink → Parts
parts p nodes links = record { nodes = nodes; links = map (λ l. l.link) links; notes = notes_of links; places = p }

-- the sections of demands and of paths, and nothing after them
unfoldable pub after_links_at : Places → List (List ℕ) → List (List ℕ) → Reading ReadKind (List Demand)
after_links_at p nodes links = do
  demands ← native_section_at (codes "DEMANDS") (native_demands_at p nodes [])
  _ ← paths_at links (map (λ d. d.name) demands)
  give demands

-- the sections after that of the nodes
unfoldable pub after_nodes_at : Places → List (List ℕ) → Reading ReadKind (List CostedLink × List Demand)
after_nodes_at p nodes = do
  links ← native_section_at (codes "LINKS") (costed_links_at p nodes [])
  demands ← after_links_at p nodes (map (λ l. l.link.name) links)
  give (links, demands)

-- all up to the end of the section of nodes
unfoldable pub node_section_at : Reading ReadKind (List (List ℕ))
node_section_at = do
  _ ← start_at
  _ ← open_at Section Ended
  native_nodes_at []

-- all sections, and nothing after them
unfoldable pub native_sections_at : Places → Reading ReadKind (Parts × List Demand)
native_sections_at p = do
  nodes ← node_section_at
  rest ← after_nodes_at p nodes
  give (parts p nodes rest.0, rest.1)
