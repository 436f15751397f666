use Rattle.std.proofs.Common.{ℕ, ◌<◌}
use Rattle.plan_terms.specs.Terms.{case_of}
use Rattle.report_checker.specs.inner.Said.{IsSaidSeparation}
use Rattle.report_checker.proofs.outcomes.check_separated.Given as goal

-- none of the demands so far has the name and is separated
abbrev pub invariant-loop-k : goal.invariant-loop-k
invariant-loop-k l = (j : ℕ) → j < l.k → IsSaidSeparation (case_of l.instance) l.state.0 l.name j → ⊥
