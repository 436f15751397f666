use Rattle.std.proofs.Common.{ℕ, ◌<◌, ◌≤◌, get_or}
use Rattle.flow_import.proofs.loads.first_above.Given as goal

abbrev pub invariant-loop-e : goal.invariant-loop-e
invariant-loop-e l = (i : ℕ) → i < l.e → get_or l.loads i 0 ≤ get_or l.capacities i 0
