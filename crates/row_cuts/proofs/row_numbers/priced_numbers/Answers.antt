use Rattle.std.{proofs.Common.{◌∙◌, ap, arith}, proofs.lemmas.Option.IfSome_then}
use Rattle.net_core.proofs.Library.{IfOk-weaker}
use Rattle.row_cuts.{specs.declared.path_row.PathRow.PathRow, proofs.Tested.tested_answer}
use Rattle.row_cuts.proofs.row_numbers.priced_numbers.Goals as goal

pub returns : goal.returns
returns c =
    let task = c.args.task.now in
    IfOk-weaker c.tested_numbers.result _ _
    (λ o found. IfSome_then o found (λ lengths row.
    tested_answer task.graph.net.now.nodes task.graph.net.now.links task.graph.states.now.listed task.demands.now c.items.result.now c.args.keys.now c.args.rows.now c.args.at c.items-nums.result.now lengths
    c.items.ensures (c.items-nums.ensures ∙ ap (λ (r : PathRow). r.nums) c.row_at.ensures) task.graph.net.now.checked task.belong (omega (arith, c.if-at-rows.false)) row))
    c.tested_numbers.ensures
