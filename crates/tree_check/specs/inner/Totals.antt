-- sums kept in two parts
use Rattle.std.specs.Prelude.{ℕ, ◌+◌, ◌*◌, ◌^◌}

-- high * 2^64 + low
abbrev pub of_parts : ℕ → ℕ → ℕ
of_parts high low = high * 2 ^ 64 + low
