use Rattle.std.proofs.Common.{Err, ap, arith, length, ◌∙◌}
use Rattle.plan_terms.{specs.Terms.{Joins, graph_of}, proofs.Lemmas.{path_links_known, path_few, joins_below, joins_inside}}
use Rattle.net_core.proofs.Networks.{few_nodes}
use Rattle.short_paths.proofs.Pricing.{least_priced}
use Rattle.short_paths.proofs.cheapest_paths.CheapestPaths.path.Goals as goal

pub total_of-total-requires-clause-known : goal.total_of-total-requires-clause-known
total_of-total-requires-clause-known c =
    let all = c.args.self.now in
    let known = path_links_known (graph_of all.paths.graph) _ _ c.in-Ok.path c.in-Ok.ensures.found.path in
    rw (c.items.ensures, c.items-in-Ok.ensures) (λ k d lt. omega (arith, known k d lt, all.count))

pub total_of-total-requires-clause-few : goal.total_of-total-requires-clause-few
total_of-total-requires-clause-few c =
    let g = graph_of c.args.self.now.paths.graph in
    let net = c.args.self.now.paths.graph.net.now in
    let few = few_nodes net.nodes net.links net.checked in
    let short = path_few (Joins g) (length net.nodes) (λ e x y j. (joins_inside g e x y net.checked j).1) _ _ c.requires.from c.in-Ok.path c.in-Ok.ensures.found.path in
    rw c.items-in-Ok.ensures (omega (arith, few, short))

pub returns-in-Ok-clause-found : goal.returns-in-Ok-clause-found
returns-in-Ok-clause-found c =
    let all = c.args.self.now in
    let g = graph_of all.paths.graph in
    let net = all.paths.graph.net.now in
    let few = few_nodes net.nodes net.links net.checked in
    let least = rw all.same at c.in-Ok.ensures.found in
    least_priced (Joins g) (length net.nodes) (omega (arith, few)) (λ e x y j. (joins_inside g e x y net.checked j).1) all.prices
    (λ e x y j. omega (arith, joins_below g e x y j, all.count)) _ _ c.requires.from _ least (rw (c.items.ensures, c.items-in-Ok.ensures) at c.total_of-total.ensures)

pub returns-in-Err-clause-apart : goal.returns-in-Err-clause-apart
returns-in-Err-clause-apart c = λ same. c.path.ensures.apart.0 (c.in-Err.is ∙ ap Err (cc same))
