-- the name that is nearest to another
use Rattle.std.specs.Prelude.{◌≡◌, ◌⊎◌, ℕ, ◌/◌, ◌≤◌, ◌<◌, Bool, false, true, not, nat_lt, ◌&&◌, cond, List, [], ◌∷◌, ◌++◌, codes, get_or, length, nat_eq}
use Rattle.strsim.specs.Edits.{levenshtein_row}
use Rattle.net_core.{specs.Terms.are_same, specs.Limits.name_bytes}
use Rattle.snd_tokens.{specs.declared.token.Token.Token, specs.declared.token.TokenKind.TokenKind, specs.Tokens.{token_bytes, tokens_from}}
use Rattle.fault_texts.specs.Quotes.{BeginsToken, IsQuote, note_text}
use Rattle.snd_tokens.specs.declared.token.TokenKind.TheVariants as tokens

-- how many bytes have to be put in, left out or changed to come from one name to another
abbrev pub edits : List ℕ → List ℕ → ℕ
edits name other = levenshtein_row nat_eq name other (length other)

-- the edits to the name at a place
abbrev pub edits_to : List ℕ → List (List ℕ) → ℕ → ℕ
edits_to name names i = edits name (get_or names i [])

-- A name is near: its edits are at most a third of the length. No other has fewer, and none before it as few.
pub record IsNearestName (name : List ℕ) (names : List (List ℕ)) (i : ℕ) : Type 0 where
  pub within : i < length names
  pub near : edits_to name names i ≤ length name / 3
  pub least : (k : ℕ) → k < length names → edits_to name names i ≤ edits_to name names k
  pub first : (k : ℕ) → k < i → edits_to name names i < edits_to name names k

-- no name is near
abbrev pub HasNoneNear : List ℕ → List (List ℕ) → Type 0
HasNoneNear name names = (k : ℕ) → k < length names → length name / 3 < edits_to name names k

-- a line that asks for the nearest of these names, if one is near
abbrev pub IsNearestNote : List ℕ → List (List ℕ) → List ℕ → Type 0
IsNearestNote name names note = (HasNoneNear name names × (note ≡ []))
    ⊎ ((i : ℕ) × (quote : List ℕ) × IsNearestName name names i × IsQuote (get_or names i []) quote
    × (note ≡ note_text (codes "did you mean " ++ quote ++ codes "?")))

-- A line that asks for one of these names instead of the word that begins at a place: the nearest, if one is near.
abbrev pub IsWordNote : List (List ℕ) → List ℕ → ℕ → List ℕ → Type 0
IsWordNote names text at note =
    (((word : List ℕ) → BeginsToken text at word → ⊥) × (note ≡ []))
    ⊎ ((word : List ℕ) × BeginsToken text at word × IsNearestNote word names note)

-- whether a token is a word
abbrev pub is_word : TokenKind → Bool
is_word tokens.Word = true
is_word tokens.Open = false
is_word tokens.Close = false

-- the bytes of a token, if it is a word that begins before a place and isn't this name
abbrev pub other_word : List ℕ → ℕ → List ℕ → Token → List (List ℕ)
other_word text at name t = cond (is_word t.kind && nat_lt t.at at && not (are_same (token_bytes text t) name)) (token_bytes text t ∷ []) []

-- the words of tokens that begin before a place and aren't this name, in order
abbrev pub other_words : List ℕ → ℕ → List ℕ → List Token → List (List ℕ)
other_words text at name [] = []
other_words text at name (t ∷ ts) = other_word text at name t ++ other_words text at name ts

-- A line that asks for another word of a text instead of this one: the nearest of those that begin before a place, if one is near. For a word of
-- more bytes than a name has there is none.
abbrev pub IsOtherNote : List ℕ → ℕ → List ℕ → List ℕ → Type 0
IsOtherNote text at word note =
    ((name_bytes < length word) × (note ≡ []))
    ⊎ ((length word ≤ name_bytes) × IsNearestNote word (other_words text at word (tokens_from 0 text)) note)

-- such a line for the word that begins at the place
abbrev pub IsNearNote : List ℕ → ℕ → List ℕ → Type 0
IsNearNote text at note =
    (((word : List ℕ) → BeginsToken text at word → ⊥) × (note ≡ []))
    ⊎ ((word : List ℕ) × BeginsToken text at word × IsOtherNote text at word note)
