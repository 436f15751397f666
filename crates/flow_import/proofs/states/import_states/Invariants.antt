use Rattle.plan_terms.specs.Terms.{case_of}
use Rattle.flow_import.specs.inner.Steps.{AreImportedTo}
use Rattle.flow_import.proofs.states.import_states.Given as goal

-- the states so far are imported
abbrev pub invariant-loop-s : goal.invariant-loop-s
invariant-loop-s l = AreImportedTo (case_of l.instance) l.caps l.flows l.s l.routings
