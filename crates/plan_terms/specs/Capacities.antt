-- counts of modules: the capacity that they install, what they cost, and whether they are able
use Rattle.std.{specs.Prelude.{◌≡◌, ℕ, ◌+◌, ◌*◌, ◌^◌, ◌<◌, ◌≤◌, Bool, if◌then◌else◌, nat_lt, List, All, length, map, sum_by, zip}, specs.List.{AllZip, list_any}}
use Rattle.net_core.{specs.declared.network.Module.Module, specs.declared.network.Link.Link, specs.declared.plan.Routing.Routing, specs.Terms.{Case, graph_in, Joins}}
use Rattle.plan_terms.specs.Flows.{Carries}

-- the capacity of counts of modules
abbrev pub modules_capacity : List Module → List ℕ → ℕ
modules_capacity modules counts = sum_by (λ p. p.0.capacity * p.1) (zip modules counts)

-- what counts of modules cost by themselves
abbrev pub modules_cost : List Module → List ℕ → ℕ
modules_cost modules counts = sum_by (λ p. p.0.cost * p.1) (zip modules counts)

-- some count is positive, so that something is installed
abbrev pub installs : List ℕ → Bool
installs counts = list_any (λ n. nat_lt 0 n) counts

-- what counts of a link's modules cost: the modules, and the link's setup once where something is installed (SNDlib's fixed charge)
abbrev pub link_cost : Link → List ℕ → ℕ
link_cost l counts = modules_cost l.modules counts + (if installs counts then l.setup else 0)

-- the installed capacity of each link: the pre-installed one and that of its modules
abbrev pub capacities : List Link → List (List ℕ) → List ℕ
capacities links counts = map (λ p. p.0.fixed + modules_capacity p.0.modules p.1) (zip links counts)

-- what counts cost: the sum over the links
abbrev pub total_cost : List Link → List (List ℕ) → ℕ
total_cost links counts = sum_by (λ p. link_cost p.0 p.1) (zip links counts)

-- one count for each module of each link
abbrev pub AreCounts : List Link → List (List ℕ) → Type 0
AreCounts links counts = AllZip (λ l c. length c ≡ length l.modules) links counts

-- each count is below 2^44, and each link's capacity is below 2^46 units
pub record AreWithinLimits (links : List Link) (counts : List (List ℕ)) : Type 0 where
  pub few : All (λ c. All (λ n. n < 2 ^ 44) c) counts
  pub small : All (λ n. n < 2 ^ 46) (capacities links counts)

-- in state s some routing carries the demands within the capacities of the counts
pub record IsAbleIn (p : Case) (counts : List (List ℕ)) (s : ℕ) : Type 0 where
  pub routing : Routing
  pub carries : Carries (Joins (graph_in p s)) p.demands 1 (capacities p.links counts) routing

-- The counts are able: in each state some routing carries the demands. Counts, numerators and denominators are any whole numbers.
pub record IsAble (p : Case) (counts : List (List ℕ)) : Type 0 where
  pub shape : AreCounts p.links counts
  pub each : (s : ℕ) → s ≤ length p.listed → IsAbleIn p counts s
