use Rattle.std.proofs.Common.{◌∙◌, Err, ap}
use Rattle.plan_terms.specs.Terms.{graph_of}
use Rattle.greedy_router.proofs.FreePaths.{low_prices, opened}
use Rattle.greedy_router.proofs.open_paths.open_path.Goals as goal

pub cheapest_path-requires-clause-low : goal.cheapest_path-requires-clause-low
cheapest_path-requires-clause-low c = rw (c.items.ensures, c.in_ok-prices.ensures) (low_prices c.args.spares.now)

pub returns-in-Ok-clause-found : goal.returns-in-Ok-clause-found
returns-in-Ok-clause-found c =
    let graph = c.args.finder.now.graph in
    let g = graph_of graph in
    let priced = rw (c.items.ensures, c.in_ok-prices.ensures) at c.in-Ok.ensures.found in
    opened g c.args.spares.now c.args.from.0 c.args.to.0 c.in-Ok.priced c.cheap_path.result graph.net.now.checked c.requires.from c.requires.spares priced c.cheap_path.ensures

pub returns-in-Err-Apart-clause-found : goal.returns-in-Err-Apart-clause-found
returns-in-Err-Apart-clause-found c = λ es path room. c.cheapest_path.ensures.apart (c.in-Err-Apart.is ∙ ap Err c.in-Err-Apart.field-0-is) es path
