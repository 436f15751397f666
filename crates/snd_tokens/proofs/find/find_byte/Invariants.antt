use Rattle.std.proofs.Common.{◌≡◌, ◌+◌, ◌==◌, drop}
use Rattle.net_core.proofs.Library.{position_or_len}
use Rattle.snd_tokens.proofs.find.find_byte.Given as goal

-- no byte before this place is the wanted one
abbrev pub invariant-loop-at : goal.invariant-loop-at
invariant-loop-at l = l.from + position_or_len (λ b. b == l.wanted) (drop l.from l.bytes) ≡ l.at + position_or_len (λ b. b == l.wanted) (drop l.at l.bytes)
