use Rattle.std.proofs.Common.{◌≡◌, ℕ, ◌<◌, false}
use Rattle.plan_terms.specs.Terms.{fails}
use Rattle.line_check.proofs.tables.never_fails.Given as goal

-- none of the states so far
abbrev pub invariant-loop-s : goal.invariant-loop-s
invariant-loop-s l = (s : ℕ) → s < l.s → fails l.states.listed s l.link.0 ≡ false
