-- numbers of each kind that cover a need, and what they weigh at least
use Rattle.std.specs.Prelude.{◌≡◌, ℕ, ◌*◌, ◌≤◌, List, length, sum_by, zip}

-- what numbers of each kind weigh together, where one of each kind weighs this
abbrev pub total_of_kinds : List ℕ → List ℕ → ℕ
total_of_kinds each numbers = sum_by (λ p. p.0 * p.1) (zip each numbers)

-- numbers of each kind cover a need
pub record CoversNeed (sizes : List ℕ) (need : ℕ) (numbers : List ℕ) : Type 0 where
  pub same : length numbers ≡ length sizes
  pub enough : need ≤ total_of_kinds sizes numbers

-- some numbers that cover the need weigh this, and none weigh less
pub record IsLeastWeight (sizes weights : List ℕ) (need least : ℕ) : Type 0 where
  pub numbers : List ℕ
  pub cover : CoversNeed sizes need numbers
  pub weight : least ≡ total_of_kinds weights numbers
  pub at_most : (others : List ℕ) → CoversNeed sizes need others → least ≤ total_of_kinds weights others
