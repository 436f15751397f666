use Rattle.std.proofs.Common.{ℕ, ◌<◌}
use Rattle.plan_terms.specs.Terms.{case_of}
use Rattle.plan_checker.specs.Terms.{HoldsAt, HasStaleRight}
use Rattle.report_checker.proofs.pool.check_rights.Given as goal

-- none of the lines so far has another right side than its cut
abbrev pub invariant-loop-k : goal.invariant-loop-k
invariant-loop-k l = (j x y : ℕ) → j < l.k → HoldsAt l.pool j (λ line. HasStaleRight (case_of l.instance) line x y) → ⊥
