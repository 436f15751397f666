-- the part of a line around a byte
use Rattle.std.specs.Prelude.{◌≡◌, ℕ, ◌+◌, ◌-◌, ◌==◌, ◌≤◌, ◌<◌, Bool, true, false, ◌||◌, ◌&&◌, List, length, nat_le, slice_index}
use Rattle.text_layout.specs.Places.{IsLineStart, begins_character}

-- The first byte from a place on, and before `at`, that begins a character; `at` where none does.
pub record IsFirstCharacter (text : List ℕ) (least at from : ℕ) : Type 0 where
  pub after : least ≤ from
  pub before : from ≤ at
  pub none : (k : ℕ) → least ≤ k → k < from → begins_character (slice_index text k) ≡ false
  pub begins : from < at → begins_character (slice_index text from) ≡ true

-- The first byte of the line, where at most 60 bytes are between; else the first that begins a character, of the 60 bytes before.
pub record IsWindowStart (text : List ℕ) (at from : ℕ) : Type 0 where
  pub start : ℕ
  pub is_start : IsLineStart text at start
  pub whole : at ≤ start + 60 → from ≡ start
  pub part : start + 60 < at → IsFirstCharacter text (at - 60) at from

-- a byte that ends a line, or begins its end
abbrev pub is_break : ℕ → Bool
is_break byte = byte == 10 || byte == 13

-- The window of `at` ends before this byte: the line does, or a character begins here after 60 bytes or more.
abbrev pub stops_before : List ℕ → ℕ → ℕ → Bool
stops_before text at k = is_break (slice_index text k) || (nat_le (at + 60) k && begins_character (slice_index text k))

-- The window goes on from `at` up to the first byte before which it stops; but it has no more than 64 bytes, and ends with the text.
pub record IsWindowEnd (text : List ℕ) (at to : ℕ) : Type 0 where
  pub after : at ≤ to
  pub within : to ≤ length text
  pub near : to ≤ at + 64
  pub goes_on : (k : ℕ) → at ≤ k → k < to → stops_before text at k ≡ false
  pub ends : to < length text → to < at + 64 → stops_before text at to ≡ true

-- The part of the byte's line around it.
pub record IsWindow (text : List ℕ) (at from to : ℕ) : Type 0 where
  pub begins : IsWindowStart text at from
  pub ends : IsWindowEnd text at to
