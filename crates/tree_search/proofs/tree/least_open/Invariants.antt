use Rattle.std.proofs.Common.{◌<◌, ℕ, MatchOption}
use Rattle.tree_search.specs.inner.Places.{IsOpenPlace}
use Rattle.tree_search.proofs.tree.least_open.Given as goal

-- an open place among the first ones, or none of them is open
abbrev pub invariant-loop-i : goal.invariant-loop-i
invariant-loop-i l = MatchOption l.best ((k : ℕ) → k < l.i → IsOpenPlace l.twigs k → ⊥) (λ r. IsOpenPlace l.twigs r.at)
