use Rattle.plan_terms.specs.Terms.{graph_of}
use Rattle.flow_router.proofs.Answering.{greedy_routed}
use Rattle.flow_router.proofs.route.routed_or_solved.Goals as goal

pub returns-then-is_whole : goal.returns-then-is_whole
returns-then-is_whole c =
    let task = c.args.task.now in
    record {
      answer = greedy_routed (graph_of task.graph) task.demands.now task.caps.now c.in_ok-left.left task.count c.requires.narrow c.in_ok-left.ensures
          (c.is_whole.ensures.0 c.if-is_whole.true);
      same = tt;
    }
