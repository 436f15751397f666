-- paths of least price
use Rattle.std.specs.Prelude.{◌≡◌, ℕ, ◌≤◌, List}
use Rattle.plan_terms.specs.Terms.{LinkId, IsPath, length_of}
use Rattle.short_paths.specs.declared.priced_paths.PricedPath.{PricedPath}

-- a path from a to b with the sum of its prices, and no path from a to b has a smaller sum
pub record IsPricedPath (joins : ℕ → ℕ → ℕ → Type 0) (prices : List ℕ) (a b : ℕ) (p : PricedPath) : Type 0 where
  pub path : IsPath joins a b p.path
  pub total : p.total ≡ length_of prices p.path
  pub least : (others : List LinkId) → IsPath joins a b others → p.total ≤ length_of prices others
