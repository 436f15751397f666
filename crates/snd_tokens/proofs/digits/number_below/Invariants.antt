use Rattle.std.proofs.Common.{◌≡◌, ◌<◌, drop}
use Rattle.snd_tokens.specs.Digits.{number_after}
use Rattle.snd_tokens.proofs.digits.number_below.Given as goal

-- the digits that are left, after the number so far, make the number that is read
abbrev pub invariant-loop-digit : goal.invariant-loop-digit
invariant-loop-digit l = (number_after l.so_far (drop l.digit-index l.digits) ≡ number_after l.number l.digits) × (l.so_far < l.limit)
