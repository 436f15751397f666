use Rattle.std.proofs.Common.{Err, ap, arith, length}
use Rattle.net_core.proofs.Library.{slice_get_within, few_nodes}
use Rattle.plan_terms.{specs.Terms.{Joins, graph_of}, proofs.Lemmas.{path_links_known, path_few, joins_below, joins_inside}}
use Rattle.short_paths.proofs.Pricing.{least_priced, scaled_long, scaled_short}
use Rattle.short_paths.proofs.path_finder.PathFinder.cheapest_path.Goals as goal

pub least_path-requires-clause-short : goal.least_path-requires-clause-short
least_path-requires-clause-short c =
    rw (c.items.ensures, c.in_ok-lengths.ensures) (scaled_short c.args.prices.now c.requires.low)

pub least_path-requires-clause-long : goal.least_path-requires-clause-long
least_path-requires-clause-long c = λ e v.
    rw (c.items.ensures, c.in_ok-lengths.ensures) (scaled_long c.args.prices.now e (omega (arith, slice_get_within _ e v.link v.at, c.requires.prices)))

pub total_of-total-requires-clause-known : goal.total_of-total-requires-clause-known
total_of-total-requires-clause-known c =
    let known = path_links_known (graph_of c.args.self.now.graph) _ _ c.in-Ok.path c.in-Ok.ensures.found.path in
    rw c.items-in-Ok.ensures (λ k d lt. omega (arith, known k d lt, c.requires.prices))

pub total_of-total-requires-clause-few : goal.total_of-total-requires-clause-few
total_of-total-requires-clause-few c =
    let g = graph_of c.args.self.now.graph in
    let net = c.args.self.now.graph.net.now in
    let few = few_nodes net.nodes net.links net.checked in
    let short = path_few (Joins g) (length net.nodes) (λ e x y j. (joins_inside g e x y net.checked j).1) _ _ c.requires.from c.in-Ok.path c.in-Ok.ensures.found.path in
    rw c.items-in-Ok.ensures (omega (arith, few, short))

pub returns-in-Ok-clause-found : goal.returns-in-Ok-clause-found
returns-in-Ok-clause-found c =
    let g = graph_of c.args.self.now.graph in
    let net = c.args.self.now.graph.net.now in
    let few = few_nodes net.nodes net.links net.checked in
    let least = rw (c.items.ensures, c.in_ok-lengths.ensures) at c.in-Ok.ensures.found in
    least_priced (Joins g) (length net.nodes) (omega (arith, few)) (λ e x y j. (joins_inside g e x y net.checked j).1) c.args.prices.now
    (λ e x y j. omega (arith, joins_below g e x y j, c.requires.prices)) _ _ c.requires.from _ least (rw c.items-in-Ok.ensures at c.total_of-total.ensures)

pub returns-clause-apart : goal.returns-clause-apart
returns-clause-apart c = λ same. c.in-Err.ensures.apart (ap Err (cc same))
