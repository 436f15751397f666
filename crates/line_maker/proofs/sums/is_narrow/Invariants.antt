use Rattle.std.proofs.Common.{ℕ, ◌<◌}
use Rattle.line_check.specs.Inequalities.{module_number}
use Rattle.line_maker.specs.inner.Candidates.{IsNarrowLink}
use Rattle.line_maker.proofs.sums.is_narrow.Given as goal

-- what the links so far give keeps its limit
abbrev pub invariant-loop-e : goal.invariant-loop-e
invariant-loop-e l = (k : ℕ) → k < l.e → IsNarrowLink l.tested l.terms k (module_number l.links k)
