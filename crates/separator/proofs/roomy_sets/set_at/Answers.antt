use Rattle.net_core.proofs.Library.{IfOk-weaker}
use Rattle.plan_terms.specs.Terms.{graph_in, graph_of, case_of}
use Rattle.separator.proofs.Somewhere.{boundary_may_be}
use Rattle.separator.proofs.roomy_sets.set_at.Goals as goal

pub returns : goal.returns
returns c =
    let instance = c.args.instance.now in
    let task = c.task.result in
    IfOk-weaker c.round_set.result _ _
    (λ found. boundary_may_be (graph_of task.graph) (graph_in (case_of instance) c.args.state.0) task.demands.now instance.demands.now task.caps.now c.args.caps.now
    found c.task.ensures.graph c.task.ensures.demands c.task.ensures.caps)
    c.round_set.ensures
