use Rattle.std.proofs.Common.{subst}
use Rattle.plan_terms.specs.Terms.{graph_of}
use Rattle.warm_routing.specs.Terms.{IsRouteAnswer}
use Rattle.separator.proofs.Somewhere.{found_cut}
use Rattle.separator.proofs.one_state.route_near.Goals as goal

pub nearest_set-requires-clause-cut : goal.nearest_set-requires-clause-cut
nearest_set-requires-clause-cut c =
    let task = c.args.task.now in
    let g = graph_of task.graph in
    let caps = task.caps.now in
    found_cut g task.graph.net.now.checked task.demands.now task.belong caps (c.requires.scale, c.are_caps.ensures.scale) (task.count, c.are_caps.ensures.nums)
    c.in-Violated.cut (subst (IsRouteAnswer g task.demands.now caps) c.in-Violated.is c.in_ok-answer.ensures.answer)
