-- words in quotes, and what is at a byte of a text
use Rattle.std.{specs.Prelude.{◌≡◌, ◌⊎◌, ℕ, zero, suc, ◌+◌, ◌/◌, ◌%◌, ◌==◌, ◌≤◌, ◌<◌, Bool, true, not, ◌||◌, ◌&&◌, cond, List, [], ◌∷◌, ◌++◌, codes, length, nat_le, nat_lt, slice_index, take}, specs.Str.is_utf8}
use Rattle.snd_tokens.{specs.declared.token.Token.Token, specs.Tokens.{token_bytes, tokens_from}}
use Rattle.text_layout.specs.Places.{begins_character, characters}
use Rattle.fault_texts.specs.Controls.{is_control}

-- a line that is indented by two spaces
abbrev pub note_text : List ℕ → List ℕ
note_text note = codes "  " ++ note ++ codes "\n"

-- `0` to `9`, and then `a` to `f`
abbrev pub hex_digit : ℕ → ℕ
hex_digit n = cond (nat_lt n 10) (48 + n) (87 + n)

-- a backslash, an x and the byte's two digits
abbrev pub escape : ℕ → List ℕ
escape b = 92 ∷ 120 ∷ hex_digit (b / 16) ∷ hex_digit (b % 16) ∷ []

-- A byte in quotes: escaped if it is of a control character; and, in what isn't UTF-8, if it isn't ASCII.
abbrev pub quoted_byte : Bool → List ℕ → ℕ → List ℕ
quoted_byte utf8 text i = cond (is_control text i || (not utf8 && nat_le 128 (slice_index text i))) (escape (slice_index text i)) (slice_index text i ∷ [])

-- the first n bytes in quotes
abbrev pub quoted_below : ℕ → Bool → List ℕ → List ℕ
quoted_below zero utf8 text = []
quoted_below (suc i) utf8 text = quoted_below i utf8 text ++ quoted_byte utf8 text i

-- all bytes in quotes
abbrev pub quoted : List ℕ → List ℕ
quoted text = quoted_below (length text) (is_utf8 text) text

-- A word is shown up to this place: all of it, but at most 40 characters, and at most 160 bytes, which matters where it isn't UTF-8.
pub record IsQuoteEnd (word : List ℕ) (n : ℕ) : Type 0 where
  pub within : n ≤ length word
  pub near : n ≤ 160
  pub few : characters (take n word) ≤ 40
  pub ends : n < length word → n < 160 → (characters (take n word) ≡ 40) × (begins_character (slice_index word n) ≡ true)

-- the first n bytes of a word between backquotes, with two points where it goes on
abbrev pub quote_text : List ℕ → ℕ → List ℕ
quote_text word n = codes "`" ++ quoted (take n word) ++ cond (n == length word) [] (codes "..") ++ codes "`"

-- the word in quotes
abbrev pub IsQuote : List ℕ → List ℕ → Type 0
IsQuote word quote = (n : ℕ) × IsQuoteEnd word n × (quote ≡ quote_text word n)

-- The token that begins at this byte has these bytes; what is before it doesn't count.
abbrev pub BeginsToken : List ℕ → ℕ → List ℕ → Type 0
BeginsToken text at word = (t : Token) × (rest : List Token) × (tokens_from at text ≡ t ∷ rest) × (t.at ≡ at) × (word ≡ token_bytes text t)

-- what is said where no token begins: that the file ends here, if it does
abbrev pub end_text : Bool → List ℕ
end_text ended = cond ended (note_text (codes "the file ends here")) []

-- What is said to be at a byte: the token that begins there; where none does, the end of the file, or nothing.
abbrev pub IsHere : List ℕ → ℕ → List ℕ → Type 0
IsHere text at here =
    ((word quote : List ℕ) × BeginsToken text at word × IsQuote word quote × (here ≡ note_text (codes "here stands " ++ quote)))
    ⊎ (((word : List ℕ) → BeginsToken text at word → ⊥) × (here ≡ end_text (at == length text)))
