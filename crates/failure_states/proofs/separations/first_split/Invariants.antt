use Rattle.std.proofs.Common.{ℕ, ◌<◌}
use Rattle.failure_states.specs.inner.Components.{IsSplit}
use Rattle.failure_states.proofs.separations.first_split.Given as goal

-- no demand so far is split
abbrev pub invariant-loop-k : goal.invariant-loop-k
invariant-loop-k l = (j : ℕ) → j < l.k → IsSplit l.labels l.demands j → ⊥
