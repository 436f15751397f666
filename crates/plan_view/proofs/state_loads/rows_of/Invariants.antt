use Rattle.plan_view.specs.Rows.{AreLoadRows}
use Rattle.plan_view.proofs.state_loads.rows_of.Given as goal

-- the rows of the links so far
abbrev pub invariant-loop-e : goal.invariant-loop-e
invariant-loop-e l = AreLoadRows l.capacities l.routing l.e l.rows
