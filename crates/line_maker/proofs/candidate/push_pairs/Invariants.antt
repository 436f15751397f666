use Rattle.std.proofs.Common.{All}
use Rattle.line_maker.specs.inner.Candidates.{IsSumCandidate}
use Rattle.line_maker.proofs.candidate.push_pairs.Given as goal

-- the candidates so far
abbrev pub invariant-loop-pair : goal.invariant-loop-pair
invariant-loop-pair l = All (IsSumCandidate l.known.tested.now) l.found
