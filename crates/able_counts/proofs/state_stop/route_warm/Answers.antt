use Rattle.std.proofs.Common.{IfSome, subst}
use Rattle.plan_terms.specs.Terms.{graph_of}
use Rattle.separator.specs.Terms.{IsWarmAnswer}
use Rattle.able_counts.proofs.state_stop.route_warm.Goals as goal

pub returns-in-Some : goal.returns-in-Some
returns-in-Some c =
    let task = c.args.task.now in
    c.answer_of.ensures (graph_of task.graph) task.demands.now task.caps.now
    (subst (λ o. IfSome o (IsWarmAnswer (graph_of task.graph) task.demands.now task.caps.now)) c.in-Some.is c.in_ok-found.ensures)
