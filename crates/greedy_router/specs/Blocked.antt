-- links with spare capacity, and nodes between which no path has any
use Rattle.std.specs.Prelude.{ℕ, ◌<◌, List, All, slice_index}
use Rattle.plan_terms.specs.Terms.{LinkId, Flow, load, IsPath}

-- link e has spare capacity: the flows over it sum to less than its number
abbrev pub HasSpare : List ℕ → List Flow → ℕ → Type 0
HasSpare nums flows e = load flows e < slice_index nums e

-- no path from a to b has only links with spare capacity
abbrev pub IsBlocked : (ℕ → ℕ → ℕ → Type 0) → (ℕ → Type 0) → ℕ → ℕ → Type 0
IsBlocked joins spare a b = (es : List LinkId) → IsPath joins a b es → All (λ e. spare e.0) es → ⊥
