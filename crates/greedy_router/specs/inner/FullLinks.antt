-- full links
use Rattle.std.specs.Prelude.{ℕ, zero, suc, ◌+◌, ◌<◌, ◌≤◌, ◌^◌, List, [], ◌∷◌, All, length, slice_index}
use Rattle.plan_terms.specs.Terms.{LinkId, IsPath}

-- a full link costs more than all others of a path, each of which costs 1
abbrev pub full_price : ℕ → ℕ
full_price zero = 2 ^ 32
full_price (suc n) = 1

-- a path from a to b of links that aren't full, and no other such path has fewer
pub record IsOpenPath (joins : ℕ → ℕ → ℕ → Type 0) (spares : List ℕ) (a b : ℕ) (path : List LinkId) : Type 0 where
  pub leads : IsPath joins a b path
  pub room : All (λ e. 0 < slice_index spares e.0) path
  pub fewest : (es : List LinkId) → IsPath joins a b es → All (λ e. 0 < slice_index spares e.0) es → length path ≤ length es

-- how many of the numbers are above 0
abbrev pub positives : List ℕ → ℕ
positives [] = 0
positives (zero ∷ xs) = positives xs
positives (suc n ∷ xs) = positives xs + 1
