use Rattle.std.proofs.Common.{◌+◌, ◌*◌, ap, ◌∙◌}
use Rattle.plan_view.specs.Reroutes.{rerouted}
use Rattle.plan_view.proofs.rerouting.rerouted_amount.Goals as goal

pub returns : goal.returns
returns c =
    let normal = c.args.normal.now in
    let routing = c.args.routing.now in
    c.difference.ensures (rerouted normal routing routing.flows)
    (c.all_moved-sums.ensures ∙ ap (λ flows. c.all_moved-sums.result.before * routing.den + rerouted normal routing flows) c.items.ensures)
