-- separations on the way: those that come before a state and a demand
use Rattle.std.specs.Prelude.{ℕ, ◌≤◌, List, All, AllPairs, Contains, length}
use Rattle.plan_terms.specs.Terms.{Case, Joins, Separates, graph_in}
use Rattle.short_paths.{specs.DistanceTables.AreAllDistances, specs.declared.distance_table.DistanceTable.DistanceTable}
use Rattle.failure_states.specs.declared.separations.Separation.{Separation}
use Rattle.failure_texts.specs.AllSeparations.{ComesBefore, IsEarlier}

-- all separations that come before state s and demand k, in their order
pub record AreSeparationsBefore (p : Case) (s k : ℕ) (found : List Separation) : Type 0 where
  pub each : All (λ x. (x.state.0 ≤ length p.listed) × ComesBefore x.state.0 x.demand s k × Separates p x.state.0 x.demand) found
  pub all : (t j : ℕ) → ComesBefore t j s k → Separates p t j → Contains found (record { state = record { 0 = t }; demand = j })
  pub order : AllPairs IsEarlier found

-- the table has the distances of a state by some lengths
pub record IsTableOf (p : Case) (s : ℕ) (table : DistanceTable) : Type 0 where
  pub lengths : List ℕ
  pub distances : AreAllDistances (Joins (graph_in p s)) lengths (length p.nodes) table
