use Rattle.std.proofs.Common.{ap, length, subst, sym, ◌∙◌}
use Rattle.plan_terms.specs.Terms.{graph_of, Length, IsGreatestDivisor}
use Rattle.route_law.specs.Terms.{IsRouteEvidence}
use Rattle.flow_router.proofs.CutPrices.{link_costs, price_long, prices_below, prices_some}
use Rattle.flow_router.proofs.route.violated.Goals as goal

pub unreachable-requires : goal.unreachable-requires
unreachable-requires c =
    let task = c.args.task.now in
    let best = c.args.best.now in
    let prices = c.in_ok-prices.prices in
    let costs = link_costs c.len-links.result (length task.graph.net.now.links) best.duals.nums c.nums.result.now prices (c.len-links.ensures ∙ ap length c.links.ensures) c.nums.ensures c.in_ok-prices.ensures in
    let divisor = subst (λ ps. IsGreatestDivisor ps c.common_price-common.result) c.items.ensures c.common_price-common.ensures in
    prices_some task best c.requires.solution c.requires.left c.requires.joined prices c.common_price-common.result costs divisor c.if-common-eq0.true

pub cut_of-requires : goal.cut_of-requires
cut_of-requires c =
    let task = c.args.task.now in
    let best = c.args.best.now in
    let prices = c.in_ok-prices.prices in
    let costs = link_costs c.len-links.result (length task.graph.net.now.links) best.duals.nums c.nums.result.now prices (c.len-links.ensures ∙ ap length c.links.ensures) c.nums.ensures c.in_ok-prices.ensures in
    let divisor = subst (λ ps. IsGreatestDivisor ps c.common_price-common.result) c.items.ensures c.common_price-common.ensures in
    let whole = rw (c.items-2.ensures, c.in-Fit.is) at c.in_ok-lengths.ensures in
    prices_below task best c.requires.solution c.requires.left c.requires.joined prices c.common_price-common.result costs divisor c.in-Fit.lengths c.if-common-eq0.false whole

pub wide-requires : goal.wide-requires
wide-requires c =
    let task = c.args.task.now in
    let best = c.args.best.now in
    let prices = c.in_ok-prices.prices in
    let costs = link_costs c.len-links.result (length task.graph.net.now.links) best.duals.nums c.nums.result.now prices (c.len-links.ensures ∙ ap length c.links.ensures) c.nums.ensures c.in_ok-prices.ensures in
    let divisor = subst (λ ps. IsGreatestDivisor ps c.common_price-common.result) c.items.ensures c.common_price-common.ensures in
    let whole = rw (c.items-2.ensures, c.in-Long.is) at c.in_ok-lengths.ensures in
    subst (λ basis. IsRouteEvidence (graph_of task.graph) task.demands.now task.caps.now basis (Length c.in-Long.link)) (sym c.in_ok-copy-in-Long.ensures)
    (price_long task best c.requires.solution c.requires.left c.requires.joined prices c.common_price-common.result costs divisor c.in-Long.link c.if-common-eq0.false whole.1)
