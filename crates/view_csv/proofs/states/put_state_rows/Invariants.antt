use Rattle.std.proofs.Common.{◌≡◌, ◌++◌, map, take}
use Rattle.plan_report.specs.Terms.{known_of}
use Rattle.view_csv.specs.Fields.{state_fields, with_plan}
use Rattle.view_csv.proofs.states.put_state_rows.Given as goal

-- the rows so far
abbrev pub invariant-loop-row : goal.invariant-loop-row
invariant-loop-row l =
    l.all ≡ l.fn.all ++ map (λ row. with_plan l.number.caller l.number.serial (state_fields (known_of l.net l.states) row)) (take l.row-index l.rows)
