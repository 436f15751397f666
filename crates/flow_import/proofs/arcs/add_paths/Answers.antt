use Rattle.std.proofs.Common.{List, [], ◌∷◌, ◌++◌, take, ap, sym, ◌∙◌, append_assoc}
use Rattle.plan_terms.specs.Terms.{Flow}
use Rattle.flow_import.{specs.inner.Steps.flows_along, proofs.Splitting.along_more}
use Rattle.flow_import.proofs.arcs.add_paths.Goals as goal

pub loop-flow-preserved : goal.loop-flow-preserved
loop-flow-preserved c =
    let k = c.args.demand in
    let split = c.args.split.now in
    let x = c.flow-item.result in
    c.in_ok-add_path.ensures
    ∙ (ap (λ (got : List Flow). got ++ flows_along k (x ∷ [])) c.loop-flow.invariant
    ∙ (append_assoc c.args.routed.now (flows_along k (take c.loop-flow.flow-index split)) (flows_along k (x ∷ []))
    ∙ ap (λ (more : List Flow). c.args.routed.now ++ more) (sym (along_more k split c.loop-flow.flow-index x c.loop-flow-test.true c.flow-item.is))))
