use Rattle.std.proofs.Common.{◌≡◌, length}
use Rattle.plan_terms.specs.Terms.{graph_of}
use Rattle.route_law.specs.Terms.{route_bound}
use Rattle.simplex_core.specs.Terms.{AtEach}
use Rattle.key_paths.proofs.numbers.bounds_of.Given as goal

-- the bounds so far
abbrev pub invariant-loop-row : goal.invariant-loop-row
invariant-loop-row l = (length l.bounds ≡ l.row) × AtEach (λ i b. b ≡ route_bound (graph_of l.task.graph) l.task.demands.now l.task.caps.now i) l.bounds
