-- why a table gives no network, no states or no demands
use Rattle.std.specs.Prelude.{◌≡◌, ℕ, zero, suc, ◌+◌, ◌++◌, ⊤, List, [], ◌∷◌, Some, length, map, slice_index_or, ◌<◌}
use Rattle.net_core.{specs.declared.demand.Demand.Demand, specs.declared.network.Link.Link, specs.declared.states.Listed.Listed, specs.Terms.{network_fault, single_state, states_fault}}
use Rattle.worked_networks.{specs.declared.fault.WorkedFault.WorkedFault, specs.declared.fault.WorkedFault.TheVariants.{Network, States, NoMemory}}

-- names of one letter each, from the letter first on
abbrev pub letters : ℕ → ℕ → List (List ℕ)
letters first zero = []
letters first (suc n) = letters first n ++ ((first + n) ∷ []) ∷ []

-- the ends of a link, by their places among the nodes, and its pre-installed capacity
abbrev pub ends_of : Link → ℕ × ℕ × ℕ
ends_of l = (l.a.0, l.b.0, l.fixed)

-- the ends of a row of a table, by their places among the nodes, and its pre-installed capacity
abbrev pub ends_of_row : {M : Type 0} → ℕ × ℕ × ℕ × M → ℕ × ℕ × ℕ
ends_of_row r = (r.0, r.1, r.2)

-- the ends of a demand, by their places among the nodes, and its need
abbrev pub row_of : Demand → ℕ × ℕ × ℕ
row_of d = (d.from.0, d.to.0, d.need)

-- the places of the links that a listed state fails
abbrev pub failed_of : Listed → List ℕ
failed_of l = map (λ e. e.0) l.links

-- what a call answers in place of what these nodes and links give: the fault that they have, or that it ran out of memory
abbrev pub RefusesNetwork : List (List ℕ) → List Link → WorkedFault → Type 0
RefusesNetwork nodes links (Network fault) = network_fault nodes links ≡ Some fault
RefusesNetwork nodes links NoMemory = ⊤
RefusesNetwork nodes links _ = ⊥

-- what a call answers in place of listed states, in a network with this number of links: the fault that they have, or that it ran out of memory
abbrev pub RefusesStates : ℕ → List Listed → WorkedFault → Type 0
RefusesStates links listed (States fault) = states_fault links listed ≡ Some fault
RefusesStates links listed NoMemory = ⊤
RefusesStates links listed _ = ⊥

-- each link fails alone, under its name
pub record AreSingles (links : List Link) (listed : List Listed) : Type 0 where
  pub count : length listed ≡ length links
  pub each : (e : ℕ) (s : Listed) (l : Link) → e < length links → slice_index_or listed e s ≡ single_state e (slice_index_or links e l).name
