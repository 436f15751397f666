use Rattle.plan_terms.specs.Terms.{case_of}
use Rattle.plan_view.specs.Rows.{AreStateRows}
use Rattle.plan_view.proofs.states.state_rows.Given as goal

-- the rows of the states so far
abbrev pub invariant-loop-state : goal.invariant-loop-state
invariant-loop-state l = AreStateRows (case_of l.instance) l.plan l.state l.rows
