-- texts that agree up to a place
use Rattle.std.specs.Prelude.{◌≡◌, ◌≢◌, ℕ, ◌+◌, ◌<◌, length}
use Rattle.snd_tokens.specs.Terms.{Text, WordAt, OpenAt, CloseAt, EndAt}

-- the place of what is next
abbrev pub place : Text → ℕ
place (WordAt p w text) = p
place (OpenAt p text) = p
place (CloseAt p text) = p
place (EndAt p) = p

-- the lexeme at this place ends before another place, and so it isn't the end of the text
abbrev pub EndsBefore : ℕ → ℕ → Text → Type 0
EndsBefore at limit (WordAt p w text) = (p ≡ at → p + length w < limit) × (p ≢ at → EndsBefore at limit text)
EndsBefore at limit (OpenAt p text) = (p ≡ at → p + 1 < limit) × (p ≢ at → EndsBefore at limit text)
EndsBefore at limit (CloseAt p text) = (p ≡ at → p + 1 < limit) × (p ≢ at → EndsBefore at limit text)
EndsBefore at limit (EndAt p) = ⊥
