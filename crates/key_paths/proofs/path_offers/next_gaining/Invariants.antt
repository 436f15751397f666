use Rattle.std.proofs.Common.{All, length}
use Rattle.plan_terms.specs.Terms.{graph_of}
use Rattle.key_paths.specs.inner.Gaining.{IsCarrier}
use Rattle.key_paths.proofs.path_offers.next_gaining.Given as goal

abbrev pub invariant-loop-c : goal.invariant-loop-c
invariant-loop-c l = All (IsCarrier (graph_of l.task.graph) l.task.demands.now) l.waiting

abbrev pub decreases-loop-c : goal.decreases-loop-c
decreases-loop-c l = length l.waiting
