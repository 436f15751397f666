use Rattle.std.proofs.Common.{◌*◌, ◌<◌, subst, sum_by, sym, zip}
use Rattle.plan_terms.specs.Terms.{Violates, graph_of}
use Rattle.node_sets.proofs.Boundaries.{violated_at}
use Rattle.node_sets.proofs.boundary.is_violated.Goals as goal

pub returns-clause-violated : goal.returns-clause-violated
returns-clause-violated c is_true =
    let task = c.args.task.now in
    let g = graph_of task.graph in
    let caps = task.caps.now in
    let cut = c.args.cut.now in
    let line = c.in_ok-line.line in
    let is = c.in_ok-line.ensures in
    let violated : Violates caps line = c.violated_by.ensures.0 is_true in
    let along : sum_by (λ q. q.0 * q.1) (zip cut.lengths caps.nums) < line.right * caps.scale =
    subst (λ ls. sum_by (λ q. q.0 * q.1) (zip ls caps.nums) < line.right * caps.scale) is.lengths violated in
    violated_at g task.demands.now caps cut line.right (is.right g c.requires.cut) along

pub returns-clause-asked : goal.returns-clause-asked
returns-clause-asked c is_violated =
    let task = c.args.task.now in
    let caps = task.caps.now in
    let cut = c.args.cut.now in
    let line = c.in_ok-line.line in
    let is = c.in_ok-line.ensures in
    let along : sum_by (λ q. q.0 * q.1) (zip cut.lengths caps.nums) < line.right * caps.scale = is_violated line.right (is.right (graph_of task.graph) c.requires.cut) in
    let violated : Violates caps line =
    subst (λ ls. sum_by (λ q. q.0 * q.1) (zip ls caps.nums) < line.right * caps.scale) (sym is.lengths) along in
    c.violated_by.ensures.1 violated
