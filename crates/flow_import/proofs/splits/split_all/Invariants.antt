use Rattle.plan_terms.specs.Terms.{case_of}
use Rattle.flow_import.specs.inner.Steps.{AreSplitTo}
use Rattle.flow_import.proofs.splits.split_all.Given as goal

-- the demands so far are split
abbrev pub invariant-loop-k : goal.invariant-loop-k
invariant-loop-k l = AreSplitTo (case_of l.instance) l.flows l.k l.routed
