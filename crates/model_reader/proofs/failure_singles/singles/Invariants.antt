use Rattle.std.proofs.Common.{◌≡◌, take}
use Rattle.model_reader.specs.Failures.{single_states}
use Rattle.model_reader.proofs.failure_singles.singles.Given as goal

abbrev pub invariant-loop-i : goal.invariant-loop-i
invariant-loop-i l = l.listed ≡ single_states (take l.i l.links)
