use Rattle.std.proofs.Common.{◌≡◌, length}
use Rattle.length_master.proofs.guess.signed.Given as goal

-- a number for each so far
abbrev pub invariant-loop-number : goal.invariant-loop-number
invariant-loop-number l = length l.raw ≡ l.number-index
