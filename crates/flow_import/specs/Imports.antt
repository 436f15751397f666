-- another tool's flows: their faults, and the routings that they are split into
use Rattle.std.specs.Prelude.{◌≡◌, ℕ, ◌+◌, ◌<◌, ◌≤◌, ◌==◌, ◌⊎◌, if◌then◌else◌, List, [], Some, filter, get_or, length, map, slice_get, slice_index, sum_by}
use Rattle.plan_terms.specs.Terms.{Demand, Flow, Routing, Case, graph_in, Graph, Joins, Survives, capacities, total_cost, Carries}
use Rattle.path_split.{specs.declared.arc.Arc.Arc, specs.declared.arc.PathFlow.PathFlow, specs.Balances.{AreNodesBalanced, IsFirstUnbalanced}, specs.Splits.IsFlowSplit}
use Rattle.flow_file.{specs.declared.flow.FlowFile.FlowFile, specs.declared.flow.LinkFlow.LinkFlow}
use Rattle.flow_import.{specs.declared.fault.ImportFault.ImportFault, specs.declared.fault.ImportFault.TheVariants.{Dead, Unbalanced, Overloaded, NoMemory}, specs.declared.imported.Imported.Imported}

-- what the flows on link e sum to, in both directions together
abbrev pub flow_load : List LinkFlow → ℕ → ℕ
flow_load flows e = sum_by (λ f. (if f.arc.link.0 == e then f.arc.num else 0)) flows

-- the arcs of demand k
abbrev pub demand_arcs : ℕ → List LinkFlow → List Arc
demand_arcs k flows = map (λ f. f.arc) (filter (λ f. f.demand == k) flows)

-- the path flows of demand k
abbrev pub demand_paths : ℕ → List Flow → List PathFlow
demand_paths k flows = map (λ f. record { path = f.path; num = f.num }) (filter (λ f. f.demand == k) flows)

-- ---- faults

-- each link with flow survives
abbrev pub AreAlive : Graph → List LinkFlow → Type 0
AreAlive g flows = (e : ℕ) → 0 < flow_load flows e → Survives g e

-- the arcs of demand k are balanced
abbrev pub IsDemandEven : Case → List LinkFlow → ℕ → Type 0
IsDemandEven p flows k = (d : Demand) → slice_get p.demands k ≡ Some d → AreNodesBalanced (length p.nodes) p.links (demand_arcs k flows) d.from.0 d.to.0 d.need

-- the flows on each link are within its capacity
abbrev pub FitInto : List ℕ → List LinkFlow → Type 0
FitInto caps flows = (e : ℕ) → flow_load flows e ≤ slice_index caps e

-- the flows of state s have no fault
pub record AreSoundIn (p : Case) (caps : List ℕ) (s : ℕ) (flows : List LinkFlow) : Type 0 where
  pub alive : AreAlive (graph_in p s) flows
  pub even : (k : ℕ) → IsDemandEven p flows k
  pub fit : FitInto caps flows

-- link e is the first that has flow and doesn't survive
pub record IsFirstDead (g : Graph) (flows : List LinkFlow) (e : ℕ) : Type 0 where
  pub link : e < length g.links
  pub loaded : 0 < flow_load flows e
  pub dead : Survives g e → ⊥
  pub before : (i : ℕ) → i < e → 0 < flow_load flows i → Survives g i

-- demand k is the first whose arcs aren't balanced, first at node n
pub record IsFirstOff (p : Case) (flows : List LinkFlow) (k n : ℕ) : Type 0 where
  pub of : Demand
  pub at : slice_get p.demands k ≡ Some of
  pub first : IsFirstUnbalanced (length p.nodes) p.links (demand_arcs k flows) of.from.0 of.to.0 of.need n
  pub before : (j : ℕ) → j < k → IsDemandEven p flows j

-- link e is the first whose flows are more than its capacity
pub record IsFirstExceeded (caps : List ℕ) (flows : List LinkFlow) (e : ℕ) : Type 0 where
  pub link : e < length caps
  pub over : slice_index caps e < flow_load flows e
  pub before : (i : ℕ) → i < e → flow_load flows i ≤ slice_index caps i

-- the first fault of the flows of state s: a dead link, else a demand that isn't balanced, else an overloaded link; running out of memory says nothing
abbrev pub IsStateFault : Case → List ℕ → ℕ → List LinkFlow → ImportFault → Type 0
IsStateFault p caps s flows (Dead t e) = (t.0 ≡ s) × IsFirstDead (graph_in p s) flows e.0
IsStateFault p caps s flows (Unbalanced t k n) = (t.0 ≡ s) × AreAlive (graph_in p s) flows × IsFirstOff p flows k n.0
IsStateFault p caps s flows (Overloaded t e) = (t.0 ≡ s) × AreAlive (graph_in p s) flows × ((k : ℕ) → IsDemandEven p flows k) × IsFirstExceeded caps flows e.0
IsStateFault p caps s flows NoMemory = Unit {0}

-- the flows of state s in a file
abbrev pub flows_in : List (List LinkFlow) → ℕ → List LinkFlow
flows_in all s = get_or all s []

-- the fault of a state before which no state has one
pub record IsFirstStateFault (p : Case) (caps : List ℕ) (all : List (List LinkFlow)) (fault : ImportFault) : Type 0 where
  pub state : ℕ
  pub listed_state : state ≤ length p.listed
  pub before : (s : ℕ) → s < state → AreSoundIn p caps s (flows_in all s)
  pub is : IsStateFault p caps state (flows_in all state) fault

-- the first fault by state, or no memory
abbrev pub IsImportFault : Case → List ℕ → List (List LinkFlow) → ImportFault → Type 0
IsImportFault p caps all fault = (fault ≡ NoMemory) ⊎ IsFirstStateFault p caps all fault

-- ---- routings

-- The routing of a state carries the demands, and the flows of each demand are a split of its arcs.
pub record IsImportedState (p : Case) (caps : List ℕ) (s : ℕ) (flows : List LinkFlow) (routing : Routing) : Type 0 where
  pub whole : routing.den ≡ 1
  pub sound : AreSoundIn p caps s flows
  pub split : (k : ℕ) (d : Demand) → slice_get p.demands k ≡ Some d
      → IsFlowSplit p.links (demand_arcs k flows) d.from.0 d.to.0 d.need (demand_paths k routing.flows)
  pub carries : Carries (Joins (graph_in p s)) p.demands 1 caps routing

-- no routing, which is read past the last
abbrev pub no_routing : Routing
no_routing = record { den = 0; flows = [] }

-- What was imported of a file: its counts, what they cost, and a routing for each state.
pub record IsImported (p : Case) (file : FlowFile) (i : Imported) : Type 0 where
  pub counts : i.counts ≡ file.counts
  pub cost : i.cost ≡ total_cost p.links file.counts
  pub states : length i.routings ≡ length p.listed + 1
  pub each : (s : ℕ) → s ≤ length p.listed → IsImportedState p (capacities p.links file.counts) s (flows_in file.flows s) (get_or i.routings s no_routing)
