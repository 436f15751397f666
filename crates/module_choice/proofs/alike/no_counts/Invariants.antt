use Rattle.std.proofs.Common.{◌≡◌, length}
use Rattle.module_choice.proofs.alike.no_counts.Given as goal

-- as many as links so far
abbrev pub invariant-loop : goal.invariant-loop
invariant-loop l = length l.counts ≡ l.counter
