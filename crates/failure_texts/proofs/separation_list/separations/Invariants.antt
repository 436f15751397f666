use Rattle.plan_terms.specs.Terms.{case_of}
use Rattle.failure_texts.specs.inner.SeparationsSoFar.{AreSeparationsBefore}
use Rattle.failure_texts.proofs.separation_list.separations.Given as goal

-- those of the states so far
abbrev pub invariant-loop-s : goal.invariant-loop-s
invariant-loop-s l = AreSeparationsBefore (case_of l.instance) l.s 0 l.found
