-- divisors of lines
use Rattle.std.specs.Prelude.{ℕ, ◌≤◌, ◌<◌, ◌^◌}

-- a divisor that a divided line may have
abbrev pub IsLineDivisor : ℕ → Type 0
IsLineDivisor divisor = (1 ≤ divisor) × (divisor < 2 ^ 126)
