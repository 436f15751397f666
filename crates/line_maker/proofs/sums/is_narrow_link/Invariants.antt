use Rattle.line_maker.specs.inner.Candidates.{IsNarrowLink}
use Rattle.line_maker.proofs.sums.is_narrow_link.Given as goal

-- so far it does
abbrev pub invariant-loop-m : goal.invariant-loop-m
invariant-loop-m l = IsNarrowLink l.tested l.terms l.e l.m
