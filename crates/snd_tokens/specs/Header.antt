-- the header of a text: its first line, without blanks at its end
use Rattle.std.{specs.Prelude.{◌≡◌, ℕ, ◌+◌, ◌-◌, ◌==◌, min, Bool, ◌||◌, List, length, take}, specs.List.{before_first, suffix_len}}

-- space, tab and carriage return
abbrev pub is_blank : ℕ → Bool
is_blank b = b == 32 || b == 9 || b == 13

-- the bytes before the first line feed, or all
abbrev pub first_line : List ℕ → List ℕ
first_line bytes = before_first (λ b. b == 10) bytes

-- a line without the blanks at its end
abbrev pub trimmed : List ℕ → List ℕ
trimmed line = take (length line - suffix_len is_blank line) line

-- the first line is this header
abbrev pub HasHeader : List ℕ → List ℕ → Type 0
HasHeader bytes header = trimmed (first_line bytes) ≡ header

-- the place after the first line and its line feed, or the end
abbrev pub second_line : List ℕ → ℕ
second_line bytes = min (length (first_line bytes) + 1) (length bytes)
