use Rattle.std.proofs.Common.{ℕ, ◌≡◌, ◌<◌, Some, slice_get}
use Rattle.plan_terms.specs.Terms.{CutLine}
use Rattle.cut_pool.specs.Terms.{cut_of_line}
use Rattle.plan_checker.specs.Terms.{HoldsAt}
use Rattle.report_checker.proofs.pool.stands_before.Given as goal

-- none of the lines so far has this cut
abbrev pub invariant-loop-j : goal.invariant-loop-j
invariant-loop-j l = (line : CutLine) → slice_get l.pool l.k ≡ Some line → (j : ℕ) → j < l.j → HoldsAt l.pool j (λ x. cut_of_line x ≡ cut_of_line line) → ⊥
