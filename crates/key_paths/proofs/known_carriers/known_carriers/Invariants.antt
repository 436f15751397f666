use Rattle.std.proofs.Common.{◌≡◌, All, length}
use Rattle.plan_terms.specs.Terms.{graph_of}
use Rattle.key_paths.specs.inner.Gaining.{IsCarrier}
use Rattle.key_paths.proofs.known_carriers.known_carriers.Given as goal

-- the carriers so far, with room for a mark of each node
abbrev pub invariant-loop-column : goal.invariant-loop-column
invariant-loop-column l =
    let task = l.task in
    record {
      size : length l.seen ≡ length task.graph.net.now.nodes;
      carriers : All (IsCarrier (graph_of task.graph) task.demands.now) l.waiting;
    }
