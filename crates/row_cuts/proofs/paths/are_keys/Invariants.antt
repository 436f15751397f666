use Rattle.plan_terms.specs.Terms.{graph_of}
use Rattle.row_cuts.specs.inner.Tests.{AreKeysBelow}
use Rattle.row_cuts.proofs.paths.are_keys.Given as goal

-- the demands so far have keys
abbrev pub invariant-loop-k : goal.invariant-loop-k
invariant-loop-k l = AreKeysBelow (graph_of l.graph) l.demands l.keys l.k
