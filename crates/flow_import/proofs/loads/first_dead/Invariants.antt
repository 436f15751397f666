use Rattle.std.proofs.Common.{ℕ, ◌<◌, get_or}
use Rattle.plan_terms.specs.Terms.{Survives, graph_of}
use Rattle.flow_import.proofs.loads.first_dead.Given as goal

abbrev pub invariant-loop-e : goal.invariant-loop-e
invariant-loop-e l = (i : ℕ) → i < l.e → 0 < get_or l.loads i 0 → Survives (graph_of l.graph) i
