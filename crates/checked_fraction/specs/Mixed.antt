-- combined rows, and where they are too wide
use Rattle.std.specs.Prelude.{ℕ, ℤ, ◌-ℤ◌, ◌*ℤ◌, ◌≡◌, ◌<◌, ◌≤◌, ◌^◌, unsigned_abs, ◌⊎◌}
use Rattle.checked_fraction.{specs.Rows.{IsNarrow, IsReduced}, specs.declared.wide.WideNumber.WideNumber}

-- q times the row less p times the pivot row, number by number
abbrev pub combined : (ℕ → ℤ) → ℤ → (ℕ → ℤ) → ℤ → ℕ → ℤ
combined nums p pivot q k = (nums k *ℤ q) -ℤ (p *ℤ pivot k)

-- the first of n numbers and the denominator, which comes last, that is 2 ^ 62 or more in absolute value
pub record IsFirstWide (n : ℕ) (nums : ℕ → ℤ) (den : ℤ) (wide : WideNumber) : Type 0 where
  pub is_wide : 2 ^ 62 ≤ unsigned_abs wide.value
  pub stands : ((wide.at < n) × (wide.value ≡ nums wide.at)) ⊎ ((wide.at ≡ n) × (wide.value ≡ den))
  pub first : (k : ℕ) → k < wide.at → IsNarrow (nums k)

-- the fractions raw over whole in lowest terms have a first wide number
abbrev pub IsTooWide : ℕ → (ℕ → ℤ) → ℤ → WideNumber → Type 0
IsTooWide n raw whole wide = (nums : ℕ → ℤ) × (den : ℤ) × IsReduced n raw whole nums den × IsFirstWide n nums den wide
