-- the tokens of a text: words, and parentheses, each a token of its own
use Rattle.std.{specs.Prelude.{◌≡◌, ℕ, zero, suc, ◌+◌, ◌≤◌, ◌==◌, Bool, cond, not, ◌||◌, IsTrue, List, [], ◌∷◌, ◌++◌, length, drop, slice_range}, specs.List.{prefix_len, position_or_len}}
use Rattle.net_core.specs.Terms.{is_space, is_word_byte, is_plain}
use Rattle.snd_tokens.specs.declared.token.TokenKind.TheVariants.{Word, Open, Close}
pub use Rattle.snd_tokens.specs.declared.token.Token.{Token}
pub use Rattle.snd_tokens.specs.declared.token.TokenKind.{TokenKind}

-- neither white space nor the sign of a comment
abbrev pub starts_token : ℕ → Bool
starts_token b = not (is_space b || b == 35)

-- how many bytes there are before the first line feed, or in all
abbrev pub line_length : List ℕ → ℕ
line_length bytes = position_or_len (λ b. b == 10) bytes

-- how many word bytes there are from the front on
abbrev pub run_length : List ℕ → ℕ
run_length bytes = prefix_len is_word_byte bytes

-- how many of the bytes after b belong to what b begins: `#` begins a comment, which ends before
-- the next line feed, and any other word byte begins a word, the longest run of word bytes
abbrev pub extent : ℕ → List ℕ → ℕ
extent b bytes = cond (b == 35) (line_length bytes) (cond (is_word_byte b) (run_length bytes) 0)

-- the token of a kind, from its place and how many bytes it has
abbrev pub token_of : TokenKind → ℕ → ℕ → Token
token_of kind at len = record { kind = kind; at = at; len = len }

-- the token that byte b at a place begins, if it begins one, where `bytes` come after b
abbrev pub begun : ℕ → ℕ → List ℕ → List Token
begun at b bytes =
    cond (not (starts_token b)) []
    (cond (b == 40) (token_of Open at 1 ∷ [])
    (cond (b == 41) (token_of Close at 1 ∷ [])
    (token_of Word at (1 + run_length bytes) ∷ [])))

-- the tokens that begin in bytes of which the first is at a place, where the first `skip` of them
-- belong to what began before
abbrev pub tokens_past : ℕ → ℕ → List ℕ → List Token
tokens_past skip at [] = []
tokens_past zero at (b ∷ bytes) = begun at b bytes ++ tokens_past (extent b bytes) (at + 1) bytes
tokens_past (suc n) at (b ∷ bytes) = tokens_past n (at + 1) bytes

-- the tokens of a text from a place on
unfoldable pub tokens_from : ℕ → List ℕ → List Token
tokens_from from bytes = tokens_past 0 from (drop from bytes)

-- the bytes of a token
abbrev pub token_bytes : List ℕ → Token → List ℕ
token_bytes bytes t = slice_range bytes t.at (t.at + t.len)

-- what the bytes of a token of each kind are
abbrev pub IsSpelled : TokenKind → List ℕ → Type 0
IsSpelled Word bytes = IsTrue (is_plain bytes)
IsSpelled Open bytes = bytes ≡ 40 ∷ []
IsSpelled Close bytes = bytes ≡ 41 ∷ []

-- a token that begins at a place or after it: it lies in the text and has the bytes of its kind
pub record IsTokenOf (from : ℕ) (bytes : List ℕ) (t : Token) : Type 0 where
  pub after : from ≤ t.at
  pub some : 1 ≤ t.len
  pub within : t.at + t.len ≤ length bytes
  pub spelled : IsSpelled t.kind (token_bytes bytes t)
