-- the names that a report is written with
use Rattle.std.{specs.Prelude.{ℕ, zero, suc, List, [], get_or, slice_get, codes}, specs.Option.option_map_or}
use Rattle.plan_terms.specs.Terms.{Demand, NodeId, Listed}

-- a node's name
abbrev pub node_name : List (List ℕ) → NodeId → List ℕ
node_name nodes n = get_or nodes n.0 []

-- a demand's name
abbrev pub demand_name : List Demand → ℕ → List ℕ
demand_name demands k = option_map_or (λ d. d.name) (slice_get demands k) []

-- a state's name
abbrev pub state_name : List Listed → ℕ → List ℕ
state_name listed zero = codes "none"
state_name listed (suc i) = option_map_or (λ l. l.name) (slice_get listed i) []
