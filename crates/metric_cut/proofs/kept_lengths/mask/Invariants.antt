use Rattle.plan_terms.specs.Terms.{graph_of}
use Rattle.metric_cut.proofs.Keepings.{AreMaskedBelow}
use Rattle.metric_cut.proofs.kept_lengths.mask.Given as goal

-- the lengths so far are masked
abbrev pub invariant-loop-e : goal.invariant-loop-e
invariant-loop-e l = AreMaskedBelow (graph_of l.graph) l.e l.initial.lengths l.lengths
