use Rattle.std.proofs.Common.{◌≡◌, ◌≤◌, ◌-◌, length}
use Rattle.snd_tokens.specs.Tokens.{tokens_from}
use Rattle.snd_tokens.proofs.token.token_start.Given as goal

-- no token begins before this place
abbrev pub invariant-loop-at : goal.invariant-loop-at
invariant-loop-at l = record { after : l.from ≤ l.at; within : l.at ≤ length l.bytes; same : tokens_from l.from l.bytes ≡ tokens_from l.at l.bytes }

abbrev pub decreases-loop-at : goal.decreases-loop-at
decreases-loop-at l = length l.bytes - l.at
