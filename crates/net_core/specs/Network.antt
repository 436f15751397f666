-- what a network meets, and the faults that keep a list of nodes and links from being one
use Rattle.std.{specs.Prelude.{◌≡◌, ◌≢◌, ℕ, ◌≤◌, ◌<◌, ◌^◌, ◌||◌, ◌&&◌, ◌==◌, ◌++◌, List, [], ◌∷◌, Bool, not, nat_lt, length, All, AllPairs, Option, slice_get}, specs.List.list_any, specs.Option.option_map_or}
use Rattle.net_core.{specs.declared.ids.LinkId.LinkId, specs.declared.network.Module.Module, specs.declared.network.Link.Link, specs.declared.network.NetFault.NetFault, specs.declared.network.NetFault.TheVariants.{Nodes, Links, DoubleNode, DoubleLink, UnknownEnd, SelfLink, Amount, Modules, ZeroModule, FixedLink}, specs.Tests.{first_fault, is_named, is_large}, specs.Limits.{most_nodes, most_links, need_power}}

-- a module carries something, and its numbers are below 2^40 units
pub record IsModule (m : Module) : Type 0 where
  pub carries : 0 < m.capacity
  pub capacity : m.capacity < 2 ^ need_power
  pub cost : m.cost < 2 ^ need_power

-- a link joins two different ones of n nodes, within the limits
pub record IsLink (n : ℕ) (l : Link) : Type 0 where
  pub from : l.a.0 < n
  pub to : l.b.0 < n
  pub different : l.a.0 ≢ l.b.0
  pub fixed : l.fixed < 2 ^ need_power
  pub setup : l.setup < 2 ^ need_power
  pub few : length l.modules ≤ 16
  pub each : All IsModule l.modules
  pub served : l.modules ≡ [] → l.fixed ≡ 0

-- at most 128 nodes and 256 links, no name twice, each link sound
pub record IsNetwork (nodes : List (List ℕ)) (links : List Link) : Type 0 where
  pub few_nodes : length nodes ≤ most_nodes
  pub few_links : length links ≤ most_links
  pub different_nodes : AllPairs (λ x y. x ≢ y) nodes
  pub different_links : AllPairs (λ x y. x.name ≢ y.name) links
  pub sound : All (IsLink (length nodes)) links

-- a link's name
abbrev pub link_name : List Link → LinkId → List ℕ
link_name links e = option_map_or (λ l. l.name) (slice_get links e.0) []

-- a test, and the fault that it finds
abbrev pub Test : Type 0
Test = Bool × NetFault

-- a number of the link is too large
abbrev pub has_large_amount : Link → Bool
has_large_amount l = is_large l.fixed || is_large l.setup || list_any (λ m. is_large m.capacity || is_large m.cost) l.modules

-- the tests of a link after earlier ones, in a network of n nodes
abbrev pub link_tests : ℕ → List Link → Link → List Test
link_tests n earlier l =
    (is_named (λ e. e.name) l.name earlier, DoubleLink (length earlier))
    ∷ (not (nat_lt l.a.0 n && nat_lt l.b.0 n), UnknownEnd (length earlier))
    ∷ (l.a.0 == l.b.0, SelfLink (length earlier))
    ∷ (has_large_amount l, Amount (length earlier))
    ∷ (nat_lt 16 (length l.modules), Modules (length earlier))
    ∷ (list_any (λ m. m.capacity == 0) l.modules, ZeroModule (length earlier))
    ∷ ((length l.modules == 0) && nat_lt 0 l.fixed, FixedLink (length earlier))
    ∷ []

-- the tests of each link after earlier ones
abbrev pub links_tests : ℕ → List Link → List Link → List Test
links_tests n earlier [] = []
links_tests n earlier (l ∷ ls) = link_tests n earlier l ++ links_tests n (earlier ++ l ∷ []) ls

-- the tests of each node's name after earlier ones
abbrev pub nodes_tests : List (List ℕ) → List (List ℕ) → List Test
nodes_tests earlier [] = []
nodes_tests earlier (name ∷ names) =
    (is_named (λ x. x) name earlier, DoubleNode (length earlier)) ∷ nodes_tests (earlier ++ name ∷ []) names

-- the first fault: of the two counts, then of the nodes' names, then link by link
abbrev pub network_fault : List (List ℕ) → List Link → Option NetFault
network_fault nodes links =
    first_fault ((nat_lt most_nodes (length nodes), Nodes) ∷ (nat_lt most_links (length links), Links) ∷ (nodes_tests [] nodes ++ links_tests (length nodes) [] links))
