use Rattle.std.proofs.Common.{◌≡◌, ◌+◌, ◌++◌, List, Some, length, slice_get, ap, subst, sym, refl, ◌∙◌}
use Rattle.net_core.proofs.Library.{slice_get_read, err_from_is_err_and}
use Rattle.plan_terms.specs.Terms.{case_of, Demand}
use Rattle.path_split.specs.declared.arc.PathFlow.{PathFlow}
use Rattle.flow_import.{specs.inner.Steps.{AreSplitTo, IsOffFault, flows_along}, proofs.Splitting.{off_fault, split_even, split_more}}
use Rattle.flow_import.proofs.splits.split_all.Goals as goal

pub loop-k-preserved : goal.loop-k-preserved
loop-k-preserved c =
    let p = case_of c.args.instance.now in
    let k = c.loop-k.k in
    let d = c.index-items-k.result in
    let items = c.items-items.result.now in
    let at : slice_get c.args.instance.now.demands.now k ≡ Some d = subst (λ (ds : List Demand). slice_get ds k ≡ Some d) c.items-items.ensures (slice_get_read items (length items) k d refl c.loop-k-test.true c.index-items-k.is) in
    subst (AreSplitTo p c.args.flows.now (k + 1)) (sym (c.in_ok-add_paths.ensures ∙ ap (λ (ps : List PathFlow). c.loop-k.routed ++ flows_along k ps) c.items.ensures))
    (split_more p c.args.flows.now k d c.loop-k.routed c.in_ok-split.split at c.in_ok-split.ensures.split c.loop-k.invariant)

pub returns-in_err-split-clause-fault : goal.returns-in_err-split-clause-fault
returns-in_err-split-clause-fault c =
    let p = case_of c.args.instance.now in
    let k = c.loop-k.k in
    let d = c.index-items-k.result in
    let items = c.items-items.result.now in
    let at : slice_get c.args.instance.now.demands.now k ≡ Some d = subst (λ (ds : List Demand). slice_get ds k ≡ Some d) c.items-items.ensures (slice_get_read items (length items) k d refl c.loop-k-test.true c.index-items-k.is) in
    let r = err_from_is_err_and c.from_residual.result c.from_residual.ensures.1 in
    rw r.1 (subst (IsOffFault p c.args.state.0 c.args.flows.now) (sym r.2) (off_fault p c.args.flows.now c.args.state.0 k d at (λ j lt. split_even p c.args.flows.now k c.loop-k.routed c.loop-k.invariant j lt) c.in_err-split.field-0.0 c.in_err-split.ensures.fault))
