-- places by falling amounts
use Rattle.std.specs.Prelude.{◌≡◌, ℕ, ◌+◌, ◌<◌, ◌≤◌, ◌⊎◌, List, length, slice_index}

-- from each place to the next the amount falls, or it stays and the place rises
abbrev pub AreFalling : List ℕ → List ℕ → Type 0
AreFalling amounts order = (i : ℕ) → i + 1 < length order
    → (slice_index amounts (slice_index order (i + 1)) < slice_index amounts (slice_index order i))
    ⊎ ((slice_index amounts (slice_index order (i + 1)) ≡ slice_index amounts (slice_index order i)) × (slice_index order i ≤ slice_index order (i + 1)))
