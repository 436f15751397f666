-- where a report ends, below which there may be comment lines
use Rattle.std.specs.Prelude.{ℕ, ◌+◌, List, [], ◌∷◌}
use Rattle.snd_tokens.specs.declared.token.Token.{Token}

-- the place after the last of these tokens, or another place where there is none
abbrev pub end_after : ℕ → List Token → ℕ
end_after at [] = at
end_after at (t ∷ ts) = end_after (t.at + t.len) ts
