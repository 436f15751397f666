use Rattle.failure_states.proofs.Relabelling.{IsRelabelled}
use Rattle.failure_states.proofs.components.relabel.Given as goal

-- the nodes so far are relabelled
abbrev pub invariant-loop-k : goal.invariant-loop-k
invariant-loop-k l = IsRelabelled l.given_up l.kept l.fn.labels l.k l.labels
