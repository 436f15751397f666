use Rattle.plan_terms.specs.Terms.{case_of}
use Rattle.failure_texts.specs.inner.SeparationsSoFar.{AreSeparationsBefore}
use Rattle.failure_texts.proofs.separation_list.put_state.Given as goal

-- those of the demands so far
abbrev pub invariant-loop-k : goal.invariant-loop-k
invariant-loop-k l = AreSeparationsBefore (case_of l.instance) l.state.0 l.k l.found
