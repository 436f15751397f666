use Rattle.metric_cut.proofs.Keepings.{AreDividedBelow}
use Rattle.metric_cut.proofs.kept_lengths.divide.Given as goal

-- the lengths so far are divided
abbrev pub invariant-loop-e : goal.invariant-loop-e
invariant-loop-e l = AreDividedBelow l.common l.e l.initial.lengths l.lengths
