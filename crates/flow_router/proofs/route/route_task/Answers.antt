use Rattle.std.proofs.Common.{Some, ap, arith, sym, subst, ◌∙◌, ◌≡◌}
use Rattle.plan_terms.specs.Terms.{Number, graph_of}
use Rattle.route_law.{specs.Terms.{IsRouteEvidence, route_slack}, proofs.Lemmas.number_evidence}
use Rattle.simplex_core.proofs.Starts.{each_at}
use Rattle.flow_router.proofs.route.route_task.Goals as goal

pub wide-requires : goal.wide-requires
wide-requires c =
    let task = c.args.task.now in
    let g = graph_of task.graph in
    let demands = task.demands.now in
    let caps = task.caps.now in
    let names = c.in_ok-names-in-Some.names in
    let made = c.in_ok-names-in-Some.ensures in
    subst (λ name. IsRouteEvidence g demands caps names (Number name)) (sym c.slack_of.ensures)
    (number_evidence g demands caps c.in-Some.row names c.in-Some.ensures.0 c.in-Some.ensures.1
    (record { count = made.count; each = λ j l. let x = each_at (λ i name. name ≡ route_slack g i) names j (omega (arith, l, made.count)) made.names in x.1 ∙ ap Some x.2 }))
