use Rattle.std.proofs.Common.{◌≡◌, ◌+◌, drop}
use Rattle.snd_tokens.specs.Tokens.{run_length}
use Rattle.snd_tokens.proofs.token.word_end.Given as goal

-- each byte before this place is a word byte
abbrev pub invariant-loop-at : goal.invariant-loop-at
invariant-loop-at l = l.from + run_length (drop l.from l.bytes) ≡ l.at + run_length (drop l.at l.bytes)
