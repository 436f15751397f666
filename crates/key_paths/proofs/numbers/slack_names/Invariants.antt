use Rattle.std.proofs.Common.{◌≡◌, length}
use Rattle.plan_terms.specs.Terms.{graph_of}
use Rattle.route_law.specs.Terms.{route_slack}
use Rattle.simplex_core.specs.Terms.{AtEach}
use Rattle.key_paths.proofs.numbers.slack_names.Given as goal

-- the names so far
abbrev pub invariant-loop-row : goal.invariant-loop-row
invariant-loop-row l = (length l.names ≡ l.row) × AtEach (λ i name. name ≡ route_slack (graph_of l.task.graph) i) l.names
