use Rattle.master_bound.specs.inner.Bests.{IsBestBelow}
use Rattle.master_bound.proofs.best.best_of.Given as goal

-- the best so far
abbrev pub invariant-loop-k : goal.invariant-loop-k
invariant-loop-k l = IsBestBelow l.net.links l.cuts l.k l.best
