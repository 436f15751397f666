use Rattle.std.proofs.Common.{All}
use Rattle.line_maker.specs.inner.Candidates.{IsSumCandidate}
use Rattle.line_maker.proofs.candidate.candidates_of.Given as goal

-- the candidates so far
abbrev pub invariant-loop-i : goal.invariant-loop-i
invariant-loop-i l = All (IsSumCandidate l.known.tested.now) l.found
