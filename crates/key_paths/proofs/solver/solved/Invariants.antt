use Rattle.std.proofs.Common.{All, length}
use Rattle.plan_terms.specs.Terms.{graph_of}
use Rattle.route_law.specs.Terms.{route_rows, route_bound}
use Rattle.simplex_law.specs.Terms.{left_over}
use Rattle.key_rows.specs.Terms.{IsRoom}
use Rattle.key_paths.{specs.inner.Gaining.IsCarrier, proofs.Looping.{IsAt, whole_price}}
use Rattle.key_paths.proofs.solver.solved.Given as goal

-- the basis is one of the program that gaining steps reach
abbrev pub invariant-loop-keyed : goal.invariant-loop-keyed
invariant-loop-keyed l =
    let task = l.task in
    record {
      at : IsAt (graph_of task.graph) task.demands.now task.caps.now l.keyed;
      room : IsRoom (length l.keyed.rows) l.room;
      waiting : All (IsCarrier (graph_of task.graph) task.demands.now) l.waiting;
    }

-- what is left above the prices
abbrev pub decreases-loop-keyed : goal.decreases-loop-keyed
decreases-loop-keyed l =
    let task = l.task in
    left_over (route_rows (graph_of task.graph) task.demands.now) (route_bound (graph_of task.graph) task.demands.now task.caps.now) (whole_price (length task.graph.net.now.links) l.keyed) l.keyed.prices.den
