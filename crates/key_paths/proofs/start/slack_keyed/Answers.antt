use Rattle.std.proofs.Common.{◌≡◌, ◌∙◌, pos, length, replicate, subst, sym, ap, arith, ◌≤ℤ◌}
use Rattle.checked_fraction.specs.Terms.{num}
use Rattle.plan_terms.specs.Terms.{graph_of}
use Rattle.route_law.{specs.Terms.route_bound, proofs.Lemmas.bound_nonneg}
use Rattle.simplex_core.{specs.Terms.{AtEach, IsUnit}, proofs.Starts.zeros_length}
use Rattle.key_rows.specs.declared.keyed.Keyed.{Keyed}
use Rattle.key_paths.proofs.Slacks.{number_at, start_of}
use Rattle.key_paths.proofs.start.slack_keyed.Goals as goal

pub slack_amounts-requires-clause-positive : goal.slack_amounts-requires-clause-positive
slack_amounts-requires-clause-positive c k l =
    let task = c.args.task.now in
    let g = graph_of task.graph in
    let bounds = c.in_ok-bounds.bounds in
    subst (λ xs. pos 0 ≤ℤ num xs k) (sym c.items.ensures)
    (subst (λ x. pos 0 ≤ℤ x) (sym (number_at (route_bound g task.demands.now task.caps.now) bounds k c.in_ok-bounds.ensures.bounds (omega (arith, l, c.links_of-links.ensures, c.in_ok-bounds.ensures.count))))
    (bound_nonneg g task.demands.now task.caps.now k))

pub returns : goal.returns
returns c =
    let task = c.args.task.now in
    let g = graph_of task.graph in
    let n = length task.graph.net.now.links in
    let q = length task.demands.now in
    let is_n = c.links_of-links.ensures in
    let bounds = c.in_ok-bounds.bounds in
    let b : Keyed = record {
      names = c.in_ok-names.names;
      places = c.in_ok-names.places;
      owners = c.in_ok-names.owners;
      rows = c.in_ok-rows.rows;
      prices = c.in_ok-rows.prices;
      duals = c.in_ok-names.duals;
      bounds = bounds;
      rest = c.in_ok-rest.rest;
      values = c.in_ok-rest.values;
      products = c.in_ok-rows.products;
    } in
    start_of g q (route_bound g task.demands.now task.caps.now) b (omega (arith, c.rows_of.type_inv, c.rows_of.ensures)) c.requires
    c.in_ok-names.ensures.count c.in_ok-names.ensures.names
    c.in_ok-names.ensures.as_many c.in_ok-names.ensures.places
    c.in_ok-names.ensures.owners (c.in_ok-rows.ensures.count ∙ is_n) (subst (λ m. AtEach (IsUnit m) c.in_ok-rows.rows) is_n c.in_ok-rows.ensures.units)
    (c.in_ok-rows.ensures.prices.0 ∙ ap (λ m. replicate m (pos 0)) is_n) c.in_ok-rows.ensures.prices.1 c.in_ok-names.ensures.duals
    c.in_ok-bounds.ensures.count c.in_ok-bounds.ensures.bounds
    (c.in_ok-rest.ensures.left ∙ is_n) (subst (λ xs. AtEach (λ k x. x ≡ num xs k) c.in_ok-rest.rest) c.items.ensures c.in_ok-rest.ensures.rest)
    (c.in_ok-rest.ensures.count ∙ is_n) (subst (λ xs. AtEach (λ k x. pos x ≡ num xs k) c.in_ok-rest.values) c.items.ensures c.in_ok-rest.ensures.values)
    (ap length c.in_ok-rows.ensures.products ∙ (zeros_length c.links_of-links.result ∙ is_n))
