use Rattle.std.proofs.Common.{◌≡◌, ◌++◌}
use Rattle.plan_terms.specs.Terms.{case_of}
use Rattle.view_csv.specs.Sheets.{flows_of_states}
use Rattle.view_csv.proofs.flows.put_flows.Given as goal

-- the flows of the states so far
abbrev pub invariant-loop-state : goal.invariant-loop-state
invariant-loop-state l = l.all ≡ l.fn.all ++ flows_of_states (case_of l.instance) l.number.caller l.number.serial l.plan l.state
