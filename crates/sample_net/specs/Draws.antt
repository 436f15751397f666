-- the sequence of numbers from which samples are drawn
use Rattle.std.specs.Prelude.{ℕ, zero, suc, ◌+◌, ◌*◌, ◌/◌, ◌%◌, ◌^◌}

-- one step of the linear congruence modulo 2^64 with multiplier and increment of Knuth's MMIX
abbrev pub next_number : ℕ → ℕ
next_number x = (x * 6364136223846793005 + 1442695040888963407) % 2 ^ 64

-- the number k steps after x
abbrev pub nth_number : ℕ → ℕ → ℕ
nth_number x zero = x
nth_number x (suc k) = next_number (nth_number x k)

-- what a number gives below m: its whole part over 2^33, modulo m
abbrev pub drawn : ℕ → ℕ → ℕ
drawn x m = x / 2 ^ 33 % m

-- the draw below m at place k, counted from 0, of those that follow x
abbrev pub nth_draw : ℕ → ℕ → ℕ → ℕ
nth_draw x k m = drawn (nth_number x (k + 1)) m
