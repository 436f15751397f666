use Rattle.master_bound.specs.inner.Gaining.{IsCandidate}
use Rattle.master_bound.proofs.pricing.best_candidate.Given as goal

-- the best of the cuts so far
abbrev pub invariant-loop-k : goal.invariant-loop-k
invariant-loop-k l = IsCandidate l.program.task.net.now.links l.program.task.pairs.now l.program.task.cuts.now l.duals l.k l.best
