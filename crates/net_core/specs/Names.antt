-- the bytes that a word of a file, and so a name, may have
use Rattle.std.{specs.Prelude.{ℕ, ◌≤◌, List, [], ◌∷◌, length, IsTrue, Bool, false, ◌||◌, ◌&&◌, not, ◌==◌}, specs.List.list_all}
use Rattle.net_core.specs.Limits.{name_bytes}

-- white space is tab, line feed, carriage return and space
abbrev pub is_space : ℕ → Bool
is_space b = b == 9 || b == 10 || b == 13 || b == 32

-- neither white space nor a parenthesis
abbrev pub is_word_byte : ℕ → Bool
is_word_byte b = not (is_space b || b == 40 || b == 41)

-- `#` begins a comment
abbrev pub begins_comment : List ℕ → Bool
begins_comment [] = false
begins_comment (b ∷ bs) = b == 35

-- a word of a file: bytes that are neither white space nor a parenthesis, of which the first is no `#`
abbrev pub is_plain : List ℕ → Bool
is_plain bytes = not (begins_comment bytes) && list_all is_word_byte bytes

-- a name is a word of 1 to 255 bytes
pub record IsName (bytes : List ℕ) : Type 0 where
  pub some : 1 ≤ length bytes
  pub short : length bytes ≤ name_bytes
  pub plain : IsTrue (is_plain bytes)
