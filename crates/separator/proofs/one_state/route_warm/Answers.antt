use Rattle.std.proofs.Common.{IfSome, subst}
use Rattle.plan_terms.specs.Terms.{graph_of}
use Rattle.warm_routing.specs.WarmAnswers.{IsWarmAnswer}
use Rattle.separator.proofs.one_state.route_warm.Goals as goal

pub returns-in-Some-clause-found : goal.returns-in-Some-clause-found
returns-in-Some-clause-found c =
    let task = c.args.task.now in
    let g = graph_of task.graph in
    c.answer_of.ensures g task.demands.now task.caps.now (subst (λ o. IfSome o (IsWarmAnswer g task.demands.now task.caps.now)) c.in-Some.is c.in_ok-found.ensures)
