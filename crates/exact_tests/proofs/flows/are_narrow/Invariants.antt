use Rattle.std.proofs.Common.{ℕ, ◌<◌}
use Rattle.checked_fraction.specs.Terms.{IsNarrow}
use Rattle.net_core.specs.Terms.{graph_of}
use Rattle.route_law.specs.Terms.{route_bound}
use Rattle.exact_tests.proofs.flows.are_narrow.Given as goal

-- the bounds so far are narrow
abbrev pub invariant-loop-row : goal.invariant-loop-row
invariant-loop-row l = (k : ℕ) → k < l.row → IsNarrow (route_bound (graph_of l.task.graph) l.task.demands.now l.task.caps.now k)
