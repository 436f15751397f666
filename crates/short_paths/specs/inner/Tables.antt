-- tables of distances, in which a number says that there is none
use Rattle.std.specs.Prelude.{◌≡◌, ℕ, ◌+◌, ◌*◌, ◌<◌, ◌≤◌, ◌==◌, cond, List, Option, None, Some, length, slice_index}
use Rattle.plan_terms.specs.Terms.{Walk}

-- The number of each node that isn't reached is `far`, and that of each other one the length of a walk that no link makes shorter. Where m
-- bounds the lengths, m times the number of nodes bounds those.
pub record IsTable (joins : ℕ → ℕ → ℕ → Type 0) (lengths : List ℕ) (far a : ℕ) (found : List ℕ) : Type 0 where
  pub start : slice_index found a ≡ 0
  pub sound : (k : ℕ) → k < length found → slice_index found k < far → Walk joins lengths a k (slice_index found k)
  pub closed : (e x y : ℕ) → slice_index found x < far → joins e x y
      → (slice_index found y < far) × (slice_index found y ≤ slice_index found x + slice_index lengths e)
  pub low : (m : ℕ) → ((e : ℕ) → slice_index lengths e ≤ m) → (k : ℕ) → slice_index found k < far → slice_index found k ≤ m * length found
  pub most : (k : ℕ) → slice_index found k ≤ far
  pub zero : 0 < far

-- what a number of the table answers
abbrev pub answer_of : ℕ → ℕ → Option ℕ
answer_of far d = cond (d == far) None (Some d)
