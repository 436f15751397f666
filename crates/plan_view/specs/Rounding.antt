-- fractions rounded to whole numbers
use Rattle.std.specs.Prelude.{◌≡◌, ℕ, ◌+◌, ◌*◌, ◌≤◌, ◌<◌}

-- n is num / den rounded up: the least whole number that isn't below it, and 0 for 0 over 0
pub record IsCeiling (num den n : ℕ) : Type 0 where
  pub reaches : num ≤ n * den
  pub least : (m : ℕ) → num ≤ m * den → n ≤ m

-- n is num / den rounded to the nearest whole number, and halves up; anything over 0 counts as 0
pub record IsNearest (num den n : ℕ) : Type 0 where
  pub none : den ≡ 0 → n ≡ 0
  pub low : 0 < den → (2 * n) * den ≤ 2 * num + den
  pub high : 0 < den → 2 * num < (2 * n) * den + den
