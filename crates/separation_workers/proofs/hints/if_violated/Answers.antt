use Rattle.std.proofs.Common.{◌*◌, ◌<◌, Some, subst, sum_by, zip}
use Rattle.plan_terms.specs.Terms.{graph_in, graph_of, case_of, Violates}
use Rattle.metric_cut.specs.Cuts.{MayKeepCut}
use Rattle.node_sets.proofs.Boundaries.{violated_at}
use Rattle.separation_workers.proofs.hints.if_violated.Goals as goal

pub returns-then-is_violated : goal.returns-then-is_violated
returns-then-is_violated c =
    let p = case_of c.args.round.now.instance in
    let g = graph_in p c.args.state.0 in
    let caps = c.args.round.now.caps.now in
    let cut = c.in-Some.cut in
    let kept = subst (λ graph. MayKeepCut graph c.args.lengths (Some cut)) c.in_state.ensures.graph
    (subst (MayKeepCut (graph_of c.in_state.result) c.args.lengths) c.in-Some.is c.in_ok-found.ensures.kept) in
    let line = c.in_ok-line.line in
    let violated : Violates caps line = c.violated_by-is_violated.ensures.0 c.if-is_violated.true in
    let along : sum_by (λ q. q.0 * q.1) (zip cut.lengths caps.nums) < line.right * caps.scale =
    subst (λ ls. sum_by (λ q. q.0 * q.1) (zip ls caps.nums) < line.right * caps.scale) c.in_ok-line.ensures.lengths violated in
    record {
      of = kept.1;
      lengths = c.args.lengths;
      priced = c.requires.lengths.priced;
      keeps = kept.0;
      violated = violated_at g p.demands caps cut line.right (c.in_ok-line.ensures.right g kept.1) along;
    }
