use Rattle.std.proofs.Common.{arith}
use Rattle.plan_view.proofs.LineSums.{asked_item_le}
use Rattle.plan_view.proofs.parts.asked_among.Goals as goal

pub overflow_add-sum : goal.overflow_add-sum
overflow_add-sum c =
    omega (arith, asked_item_le c.args.state c.args.lines.now c.loop-l.l-index c.l-item.result c.loop-l-test.true c.l-item.result c.l-item.is, c.loop-l.invariant, c.requires)
