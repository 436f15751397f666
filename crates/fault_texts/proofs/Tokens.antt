-- what begins at a byte, by the tokens from there on
use Rattle.std.proofs.Common.{◌≡◌, ◌≢◌, ◌∙◌, ℕ, List, [], ◌∷◌, ap, refl, sym}
use Rattle.snd_tokens.{specs.declared.token.Token.Token, specs.Tokens.{token_bytes, tokens_from}}
use Rattle.fault_texts.specs.Quotes.{BeginsToken}

pub no_token : (text : List ℕ) (at : ℕ) → tokens_from at text ≡ [] → (word : List ℕ) → BeginsToken text at word → ⊥
no_token text at none word b = absurd (let e : [] ≡ b.0 ∷ b.1 = sym none ∙ b.2 in cc e)

pub later_token : (text : List ℕ) (at : ℕ) (t : Token) (rest : List Token) → tokens_from at text ≡ t ∷ rest → t.at ≢ at → (word : List ℕ) → BeginsToken text at word → ⊥
later_token text at t rest is apart word b =
    let both : t ∷ rest ≡ b.0 ∷ b.1 = sym is ∙ b.2 in
    let same : t ≡ b.0 = cc both in
    absurd (apart (ap (λ u. u.at) same ∙ b.3))

pub this_token : (text : List ℕ) (at : ℕ) (t : Token) (rest : List Token) → tokens_from at text ≡ t ∷ rest → t.at ≡ at → BeginsToken text at (token_bytes text t)
this_token text at t rest is here = (t, rest, is, here, refl)
