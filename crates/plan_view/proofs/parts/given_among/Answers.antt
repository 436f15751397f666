use Rattle.std.proofs.Common.{◌*◌, ap, ◌∙◌, arith}
use Rattle.plan_terms.specs.Terms.{fixed_along}
use Rattle.plan_view.proofs.LineSums.{given_item_le}
use Rattle.plan_view.proofs.parts.given_among.Goals as goal

pub overflow_add-sum : goal.overflow_add-sum
overflow_add-sum c =
    let product = ap (λ x. c.l-item.result.num * x) (c.fixed_along.ensures.exact ∙ ap (λ lengths. fixed_along lengths c.args.links.now) c.items.ensures) in
    omega (arith, given_item_le c.args.state c.args.lines.now c.loop-l.l-index c.l-item.result c.loop-l-test.true c.args.links.now c.l-item.result c.l-item.is, product, c.loop-l.invariant, c.requires.low)
