-- The lexemes of a file come one after another.
use Rattle.std.proofs.Common.{◌≡◌, ℕ, zero, suc, ◌+◌, ◌≤◌, ◌==◌, true, false, cond, not, List, [], ◌∷◌, ◌++◌, length, drop, arith, length-drop}
use Rattle.snd_tokens.{specs.declared.token.Token.Token, specs.Terms.{starts_token, run_length, extent, token_of, begun, tokens_past, tokens_from, Text, text_of, text_from}}
use Rattle.text_kit.{specs.Places.place, proofs.Alike.Rises}
use Rattle.snd_tokens.specs.declared.token.TokenKind.TheVariants as kinds

-- the lexemes rise, and the first is at this place or after it
abbrev pub RisesFrom : ℕ → Text → Type 0
RisesFrom at text = Rises text × (at ≤ place text)

begun_rises : (whole : List ℕ) (at b : ℕ) (bytes : List ℕ) (ts : List Token) → RisesFrom (at + 1) (text_of whole ts) → RisesFrom at (text_of whole (begun at b bytes ++ ts))
begun_rises whole at b bytes ts r =
    elim (not (starts_token b)) as (λ v. RisesFrom at (text_of whole (cond v [] (cond (b == 40) (token_of kinds.Open at 1 ∷ []) (cond (b == 41) (token_of kinds.Close at 1 ∷ []) (token_of kinds.Word at (1 + run_length bytes) ∷ []))) ++ ts))) [
      | true ↦ (r.0, omega (arith, r.1))
      | false ↦ elim (b == 40) as (λ v. RisesFrom at (text_of whole (cond v (token_of kinds.Open at 1 ∷ []) (cond (b == 41) (token_of kinds.Close at 1 ∷ []) (token_of kinds.Word at (1 + run_length bytes) ∷ [])) ++ ts))) [
        | true ↦ ((omega (arith, r.1), r.0), omega arith)
        | false ↦ elim (b == 41) as (λ v. RisesFrom at (text_of whole (cond v (token_of kinds.Close at 1 ∷ []) (token_of kinds.Word at (1 + run_length bytes) ∷ []) ++ ts))) [
          | true ↦ ((omega (arith, r.1), r.0), omega arith)
          | false ↦ ((omega (arith, r.1), r.0), omega arith)
        ]
      ]
    ]

past_rises : (whole : List ℕ) (skip at : ℕ) (bytes : List ℕ) → at + length bytes ≡ length whole → RisesFrom at (text_of whole (tokens_past skip at bytes))
past_rises whole skip at [] e = (tt, omega (arith, e))
past_rises whole zero at (b ∷ bytes) e = begun_rises whole at b bytes (tokens_past (extent b bytes) (at + 1) bytes) (past_rises whole (extent b bytes) (at + 1) bytes (omega (arith, e)))
past_rises whole (suc n) at (b ∷ bytes) e = let r = past_rises whole n (at + 1) bytes (omega (arith, e)) in (r.0, omega (arith, r.1))

pub file_rises : (from : ℕ) (bytes : List ℕ) → from ≤ length bytes → RisesFrom from (text_from from bytes)
unfolding text_from tokens_from
file_rises from bytes within = past_rises bytes 0 from (drop from bytes) (omega (arith, length-drop from bytes, within))
