-- walks, which may visit a node twice
use Rattle.std.specs.Prelude.{◌≡◌, ℕ, List}
use Rattle.net_core.specs.declared.ids.LinkId.{LinkId}
use Rattle.plan_terms.specs.Paths.{Leads, last_node, length_of}

-- a walk of length d from a to b: links that lead there, along nodes that may be visited twice
pub record Walk (joins : ℕ → ℕ → ℕ → Type 0) (lengths : List ℕ) (a b d : ℕ) : Type 0 where
  pub along : List LinkId
  pub nodes : List ℕ
  pub leads : Leads joins a along nodes
  pub ends : last_node a nodes ≡ b
  pub long : length_of lengths along ≡ d
