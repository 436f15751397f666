-- a demand of a list gets another need
use Rattle.std.specs.Prelude.{◌≡◌, ◌≢◌, ℕ, List, Some, length, slice_get}
use Rattle.plan_terms.specs.Terms.{Demand}

-- these demands, but that the one at place k has this need
pub record IsPlaceOf (before : List Demand) (k need : ℕ) (after : List Demand) : Type 0 where
  pub count : length after ≡ length before
  pub here : (d : Demand) → slice_get before k ≡ Some d → slice_get after k ≡ Some (record { name = d.name; from = d.from; to = d.to; need = need })
  pub others : (j : ℕ) → j ≢ k → slice_get after j ≡ slice_get before j
