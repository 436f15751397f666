-- what the steps of an import answer
use Rattle.std.specs.Prelude.{◌≡◌, ℕ, ◌<◌, ◌≤◌, List, All, Some, get_or, length, map, slice_get, slice_index}
use Rattle.plan_terms.specs.Terms.{Demand, Flow, Routing, Case, Graph, Survives}
use Rattle.path_split.{specs.declared.arc.PathFlow.PathFlow, specs.Balances.{AreNodesBalanced, IsFirstUnbalanced}, specs.Splits.IsFlowSplit}
use Rattle.flow_file.specs.declared.flow.LinkFlow.{LinkFlow}
use Rattle.flow_import.{specs.declared.fault.ImportFault.ImportFault, specs.declared.fault.ImportFault.TheVariants.{Dead, Unbalanced, Overloaded, NoMemory}, specs.Imports.{IsFirstOff, IsImportedState, demand_arcs, demand_paths, flow_load, flows_in, no_routing}}

-- the flows of a demand along paths
abbrev pub flows_along : ℕ → List PathFlow → List Flow
flows_along k split = map (λ f. record { demand = k; path = f.path; num = f.num }) split

-- these are the loads of the flows on n links
pub record AreLoads (n : ℕ) (flows : List LinkFlow) (loads : List ℕ) : Type 0 where
  pub long : length loads ≡ n
  pub each : (e : ℕ) → e < n → slice_index loads e ≡ flow_load flows e

-- place e is the first of the loads above 0 whose link doesn't survive
pub record IsFirstLost (g : Graph) (loads : List ℕ) (e : ℕ) : Type 0 where
  pub place : e < length loads
  pub loaded : 0 < slice_index loads e
  pub dead : Survives g e → ⊥
  pub before : (i : ℕ) → i < e → 0 < slice_index loads i → Survives g i

-- place e is the first at which the load is more than the capacity
pub record IsFirstAbove (loads caps : List ℕ) (e : ℕ) : Type 0 where
  pub place : e < length loads
  pub over : slice_index caps e < slice_index loads e
  pub before : (i : ℕ) → i < e → slice_index loads i ≤ slice_index caps i

-- why the arcs of demand k, of this from, to and need, weren't split in state s
abbrev pub IsSplitFault : Case → ℕ → List LinkFlow → Demand → ℕ → ImportFault → Type 0
IsSplitFault p s flows d k (Dead t e) = ⊥
IsSplitFault p s flows d k (Unbalanced t j n) = (t.0 ≡ s) × (j ≡ k)
    × IsFirstUnbalanced (length p.nodes) p.links (demand_arcs k flows) d.from.0 d.to.0 d.need n.0
IsSplitFault p s flows d k (Overloaded t e) = ⊥
IsSplitFault p s flows d k NoMemory = Unit {0}

-- a demand whose arcs were split
pub record IsSplitDemand (p : Case) (flows : List LinkFlow) (d : Demand) (k : ℕ) (split : List PathFlow) : Type 0 where
  pub even : AreNodesBalanced (length p.nodes) p.links (demand_arcs k flows) d.from.0 d.to.0 d.need
  pub paths : IsFlowSplit p.links (demand_arcs k flows) d.from.0 d.to.0 d.need split

-- the first n demands are split into flows
pub record AreSplitTo (p : Case) (flows : List LinkFlow) (n : ℕ) (routed : List Flow) : Type 0 where
  pub some : n ≤ length p.demands
  pub early : All (λ f. f.demand < n) routed
  pub each : (k : ℕ) (d : Demand) → k < n → slice_get p.demands k ≡ Some d → IsSplitDemand p flows d k (demand_paths k routed)

-- the first demand that isn't balanced in state s
abbrev pub IsOffFault : Case → ℕ → List LinkFlow → ImportFault → Type 0
IsOffFault p s flows (Dead t e) = ⊥
IsOffFault p s flows (Unbalanced t k n) = (t.0 ≡ s) × IsFirstOff p flows k n.0
IsOffFault p s flows (Overloaded t e) = ⊥
IsOffFault p s flows NoMemory = Unit {0}

-- the first n states are imported
pub record AreImportedTo (p : Case) (caps : List ℕ) (all : List (List LinkFlow)) (n : ℕ) (routings : List Routing) : Type 0 where
  pub some : n ≤ length all
  pub long : length routings ≡ n
  pub each : (s : ℕ) → s < n → IsImportedState p caps s (flows_in all s) (get_or routings s no_routing)
