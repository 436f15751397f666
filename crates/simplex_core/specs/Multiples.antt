-- least common multiples
use Rattle.std.{specs.Prelude.{ℕ, Option, Some, None, ◌<◌, ◌≤◌, ◌^◌}, specs.Int.◌∣◌}

-- the least common multiple of both, which is narrow
pub record IsLeastMultiple (a b multiple : ℕ) : Type 0 where
  pub some : 0 < multiple
  pub narrow : multiple < 2 ^ 62
  pub first : a ∣ multiple
  pub second : b ∣ multiple
  pub least : (c : ℕ) → a ∣ c → b ∣ c → multiple ∣ c

-- a wide number that divides each common multiple
abbrev pub HaveNoMultiple : ℕ → ℕ → Type 0
HaveNoMultiple a b = (part : ℕ) × (2 ^ 62 ≤ part) × ((c : ℕ) → a ∣ c → b ∣ c → part ∣ c)

-- the least common multiple of two numbers where it is narrow
abbrev pub IsCommonMultiple : ℕ → ℕ → Option ℕ → Type 0
IsCommonMultiple a b None = HaveNoMultiple a b
IsCommonMultiple a b (Some multiple) = IsLeastMultiple a b multiple
