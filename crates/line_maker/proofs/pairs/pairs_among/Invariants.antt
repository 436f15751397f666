use Rattle.std.proofs.Common.{All}
use Rattle.line_maker.specs.inner.Candidates.{AreTwoTerms}
use Rattle.line_maker.proofs.pairs.pairs_among.Given as goal

-- the pairs so far
abbrev pub invariant-loop-choice : goal.invariant-loop-choice
invariant-loop-choice l = All (AreTwoTerms l.known.tested.now) l.pairs
