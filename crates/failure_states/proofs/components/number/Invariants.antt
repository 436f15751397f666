use Rattle.std.proofs.Common.{◌≡◌, ℕ, ◌<◌, length, get_or}
use Rattle.failure_states.proofs.components.number.Given as goal

-- the nodes so far have their numbers
abbrev pub invariant-loop-k : goal.invariant-loop-k
invariant-loop-k l = (length l.labels ≡ length l.fn.labels) × ((j : ℕ) → j < l.k → get_or l.labels j 0 ≡ j)
