-- lines and columns of a text
use Rattle.std.specs.Prelude.{◌≡◌, ℕ, ◌+◌, ◌-◌, ◌==◌, ◌≤◌, ◌<◌, Bool, true, false, ◌||◌, ◌&&◌, not, cond, List, drop, nat_le, nat_lt, slice_index, sum_by, take}
use Rattle.net_core.specs.Sums.{sum_below}

-- The byte is the last one of a line end: a line feed, or a carriage return that no line feed follows.
abbrev pub ends_line : List ℕ → ℕ → Bool
ends_line text i = slice_index text i == 10 || (slice_index text i == 13 && not (slice_index text (i + 1) == 10))

-- how many line ends are before a byte
abbrev pub line_ends : List ℕ → ℕ → ℕ
line_ends text at = sum_below at (λ i. cond (ends_line text i) 1 0)

-- The line of a byte begins here: no line end is between, and one is right before it, or nothing is.
pub record IsLineStart (text : List ℕ) (at start : ℕ) : Type 0 where
  pub before : start ≤ at
  pub between : (k : ℕ) → start ≤ k → k < at → ends_line text k ≡ false
  pub first : (k : ℕ) → start ≡ k + 1 → ends_line text k ≡ true

-- a byte that is the first one of a character in UTF-8
abbrev pub begins_character : ℕ → Bool
begins_character byte = nat_lt byte 128 || nat_le 192 byte

-- how many characters begin in the bytes
abbrev pub characters : List ℕ → ℕ
characters bytes = sum_by (λ b. cond (begins_character b) 1 0) bytes

-- the bytes from one place up to another
abbrev pub bytes_between : ℕ → ℕ → List ℕ → List ℕ
bytes_between from to text = take (to - from) (drop from text)

-- A byte's line is one more than the line ends before it, and its column one more than the characters that begin before it in its line.
pub record IsPlace (text : List ℕ) (at line column : ℕ) : Type 0 where
  pub start : ℕ
  pub is_start : IsLineStart text at start
  pub is_line : line ≡ line_ends text at + 1
  pub is_column : column ≡ characters (bytes_between start at text) + 1
