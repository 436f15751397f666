use Rattle.std.proofs.Common.{◌*◌, ◌<◌, subst, sum_by, zip}
use Rattle.plan_terms.specs.Terms.{graph_in, case_of, Violates}
use Rattle.warm_routing.proofs.Lemmas.{violated_at}
use Rattle.separator.proofs.roomy_sets.if_violated.Goals as goal

pub returns-then-violated_by : goal.returns-then-violated_by
returns-then-violated_by c =
    let p = case_of c.args.instance.now in
    let g = graph_in p c.args.state.0 in
    let caps = c.args.caps.now in
    let cut = c.args.cut in
    let line = c.in_ok-line.line in
    let found = c.requires.cut in
    let violated : Violates caps line = c.violated_by.ensures.0 c.if-violated_by.true in
    let along : sum_by (λ q. q.0 * q.1) (zip cut.lengths caps.nums) < line.right * caps.scale =
    subst (λ ls. sum_by (λ q. q.0 * q.1) (zip ls caps.nums) < line.right * caps.scale) c.in_ok-line.ensures.lengths violated in
    record {
      of = found.of;
      lengths = found.lengths;
      priced = found.priced;
      keeps = found.keeps;
      violated = violated_at g p.demands caps cut line.right (c.in_ok-line.ensures.right g found.of) along;
    }
