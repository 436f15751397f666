use Rattle.std.proofs.Common.{◌≡◌, ◌++◌, map, take}
use Rattle.plan_report.specs.Terms.{known_of}
use Rattle.view_csv.specs.Fields.{flow_fields, with_plan}
use Rattle.view_csv.proofs.flows.put_rows.Given as goal

-- the rows so far
abbrev pub invariant-loop-row : goal.invariant-loop-row
invariant-loop-row l =
    l.all ≡ l.fn.all ++ map (λ row. with_plan l.number.caller l.number.serial
    (flow_fields (known_of l.instance.net.now l.instance.states.now) l.instance.demands.now l.state row)) (take l.row-index l.rows)
