-- mixed numbers: a whole part, and a rest over a denominator
use Rattle.std.specs.Prelude.{◌≡◌, ℕ, ◌+◌, ◌-◌, ◌*◌, ◌^◌, ◌<◌, List, length, min, slice_index_or}
use Rattle.plan_checker.specs.declared.mixed.Mixed.{Mixed}

-- the mixed number is n / den; a whole part that 128 bits don't hold is kept as the greatest number that they do
pub record IsMixed (den n : ℕ) (m : Mixed) : Type 0 where
  pub count : ℕ
  pub parts : n ≡ count * den + m.rest
  pub small : m.rest < den
  pub held : m.whole ≡ min count (2 ^ 128 - 1)

-- each mixed number of the list is that of its place
abbrev pub AreMixed : ℕ → (ℕ → ℕ) → List Mixed → Type 0
AreMixed den n ms = (k : ℕ) (d : Mixed) → k < length ms → IsMixed den (n k) (slice_index_or ms k d)
