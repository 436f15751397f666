use Rattle.key_rows.specs.inner.Written.{AreWritten}
use Rattle.key_rows.proofs.weights.write_weights.Given as goal

-- the weights so far
abbrev pub invariant-loop-i : goal.invariant-loop-i
invariant-loop-i l = AreWritten l.rows l.owners l.weights l.demand l.all l.i
