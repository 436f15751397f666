-- A text has at most as many lexemes as the file has bytes.
use Rattle.std.proofs.Common.{◌≡◌, ℕ, zero, suc, ◌+◌, ◌≤◌, ◌==◌, true, false, cond, not, List, [], ◌∷◌, length, drop, arith, length-append, length-drop, refl}
use Rattle.snd_tokens.{specs.declared.token.TokenKind.TokenKind, specs.Tokens.{Token, starts_token, run_length, extent, token_of, begun, tokens_past, tokens_from, token_bytes}, specs.Lexemes.{Text, put_before, text_of, text_from, size}}
use Rattle.snd_tokens.specs.declared.token.TokenKind.TheVariants as kinds

-- a byte begins one token or none
begun_few : (at b : ℕ) (bytes : List ℕ) → length (begun at b bytes) ≤ 1
begun_few at b bytes =
    elim (not (starts_token b)) as (λ v. length (cond v [] (cond (b == 40) (token_of kinds.Open at 1 ∷ []) (cond (b == 41) (token_of kinds.Close at 1 ∷ []) (token_of kinds.Word at (1 + run_length bytes) ∷ [])))) ≤ 1) [
      | true ↦ omega arith
      | false ↦ elim (b == 40) as (λ v. length (cond v (token_of kinds.Open at 1 ∷ []) (cond (b == 41) (token_of kinds.Close at 1 ∷ []) (token_of kinds.Word at (1 + run_length bytes) ∷ []))) ≤ 1) [
        | true ↦ omega arith
        | false ↦ elim (b == 41) as (λ v. length (cond v (token_of kinds.Close at 1 ∷ []) (token_of kinds.Word at (1 + run_length bytes) ∷ [])) ≤ 1) [
          | true ↦ omega arith
          | false ↦ omega arith
        ]
      ]
    ]

tokens_few : (skip at : ℕ) (bytes : List ℕ) → length (tokens_past skip at bytes) ≤ length bytes
tokens_few skip at [] = omega arith
tokens_few zero at (b ∷ bytes) = omega (arith, length-append (begun at b bytes) (tokens_past (extent b bytes) (at + 1) bytes), begun_few at b bytes, tokens_few (extent b bytes) (at + 1) bytes)
tokens_few (suc n) at (b ∷ bytes) = omega (arith, tokens_few n (at + 1) bytes)

size_before : (kind : TokenKind) (at : ℕ) (bytes : List ℕ) (rest : Text) → size (put_before kind at bytes rest) ≡ 1 + size rest
size_before kinds.Word at bytes rest = omega arith
size_before kinds.Open at bytes rest = omega arith
size_before kinds.Close at bytes rest = omega arith

size_of : (bytes : List ℕ) (ts : List Token) → size (text_of bytes ts) ≡ length ts
size_of bytes [] = refl
size_of bytes (t ∷ ts) = omega (arith, size_before t.kind t.at (token_bytes bytes t) (text_of bytes ts), size_of bytes ts)

pub size_within : (from : ℕ) (bytes : List ℕ) → size (text_from from bytes) ≤ length bytes
unfolding text_from tokens_from
size_within from bytes = omega (arith, size_of bytes (tokens_past 0 from (drop from bytes)), tokens_few 0 from (drop from bytes), length-drop from bytes)
