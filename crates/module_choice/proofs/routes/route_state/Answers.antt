use Rattle.std.proofs.Common.{◌≡◌, ◌∙◌, List, arith, subst, sum_by}
use Rattle.plan_terms.specs.Terms.{Demand, graph_in, Joins, case_of, graph_of, IsLeastRouting, AreApart}
use Rattle.module_choice.proofs.Choices.{answers_also}
use Rattle.module_choice.proofs.routes.route_state.Goals as goal

pub route_all-requires-clause-joined : goal.route_all-requires-clause-joined
route_all-requires-clause-joined c k d at some apart =
    let same : graph_of c.in_ok-paths.paths.graph ≡ graph_in (case_of c.args.instance.now) c.args.state.0 = c.in_ok-paths.ensures.graph ∙ c.in_state-graph.ensures.graph in
    c.requires.survivable c.args.state.0 k (omega (arith, c.requires.state)) (record {
      demand = d;
      at = rw c.items.ensures at at;
      needed = some;
      apart = subst (λ g. AreApart (Joins g) d.from.0 d.to.0) same apart;
    })

pub returns-clause-routed : goal.returns-clause-routed
returns-clause-routed c =
    let p = case_of c.args.instance.now in
    let paths = c.in_ok-paths.paths in
    let same : graph_of paths.graph ≡ graph_in p c.args.state.0 = c.in_ok-paths.ensures.graph ∙ c.in_state-graph.ensures.graph in
    answers_also c.route_all.result
    (λ r least. subst (λ g. IsLeastRouting (Joins g) c.args.lengths.now p.demands r) same
    (subst (λ ls. IsLeastRouting (Joins (graph_of paths.graph)) ls p.demands r) c.in_ok-paths.ensures.lengths
    (subst (λ ds. IsLeastRouting (Joins (graph_of paths.graph)) paths.lengths ds r) c.items.ensures least)))
    c.route_all.ensures.routed

pub returns-clause-total : goal.returns-clause-total
returns-clause-total c = answers_also c.route_all.result (λ r total. subst (λ (ds : List Demand). sum_by (λ f. f.num) r.flows ≡ sum_by (λ d. d.need) ds) c.items.ensures total) c.route_all.ensures.total
