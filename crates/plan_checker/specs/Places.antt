-- items at places of lists, and the least places at which something holds
use Rattle.std.specs.Prelude.{◌≡◌, ℕ, ◌<◌, List, Some, slice_get}

-- the list has an item at this place, of which this holds
pub record HoldsAt {X : Type 0} (xs : List X) (k : ℕ) (P : X → Type 0) : Type 0 where
  pub item : X
  pub at : slice_get xs k ≡ Some item
  pub holds : P item

-- k is the least place at which this holds
abbrev pub IsLeastPlace : (ℕ → Type 0) → ℕ → Type 0
IsLeastPlace P k = P k × ((j : ℕ) → j < k → P j → ⊥)

-- s is the least number with a place at which this holds, and k its least place
abbrev pub IsLeastPair : (ℕ → ℕ → Type 0) → ℕ → ℕ → Type 0
IsLeastPair P s k = P s k × ((t j : ℕ) → t < s → P t j → ⊥) × ((j : ℕ) → j < k → P s j → ⊥)
