use Rattle.failure_texts.specs.Fates.{AreFates}
use Rattle.failure_texts.proofs.fates.fates_of.Given as goal

-- the fates of the links so far
abbrev pub invariant-loop-e : goal.invariant-loop-e
invariant-loop-e l = AreFates l.fn.net l.fn.demands l.e l.fates
