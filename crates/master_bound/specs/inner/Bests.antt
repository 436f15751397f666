-- the first cut of greatest own bound among the first ones of a list
use Rattle.std.specs.Prelude.{◌≡◌, ℕ, ◌<◌, ◌≤◌, ◌⊎◌, List, Some, slice_get}
use Rattle.plan_terms.specs.Terms.{Link, CutLine, IsOwnBound}
use Rattle.master_bound.specs.declared.best.GreatestOwn.{GreatestOwn}

-- the cut at place k takes the place of another where its own bound is greater
pub record IsBetterOwn (links : List Link) (old : GreatestOwn) (k : ℕ) (cut : CutLine) (new : GreatestOwn) : Type 0 where
  pub bound : ℕ
  pub own : IsOwnBound links cut.lengths cut.right bound
  pub is : ((bound ≤ old.bound) × (new ≡ old)) ⊎ ((old.bound < bound) × (new ≡ record { cut = k; bound = bound }))

-- a cut has an own bound that is at most the best one, and less where the cut comes before the best one
pub record IsNoBetter (links : List Link) (cut : CutLine) (i : ℕ) (best : GreatestOwn) : Type 0 where
  pub bound : ℕ
  pub own : IsOwnBound links cut.lengths cut.right bound
  pub most : bound ≤ best.bound
  pub less : i < best.cut → bound < best.bound

-- the first of greatest own bound among the first n cuts
pub record IsBestBelow (links : List Link) (cuts : List CutLine) (n : ℕ) (best : GreatestOwn) : Type 0 where
  pub below : best.cut < n
  pub own : (c : CutLine) → slice_get cuts best.cut ≡ Some c → IsOwnBound links c.lengths c.right best.bound
  pub each : (i : ℕ) (c : CutLine) → i < n → slice_get cuts i ≡ Some c → IsNoBetter links c i best
