-- lengths above 0 in proportion to prices
use Rattle.std.specs.Prelude.{ℕ, ◌+◌, ◌*◌, ◌^◌}

-- the price 2^20 times, and 1 for the link
abbrev pub scaled : ℕ → ℕ
scaled price = 2 ^ 20 * price + 1
