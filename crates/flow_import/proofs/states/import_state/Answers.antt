use Rattle.std.proofs.Common.{ℕ, List, length, ap, arith, refl, subst, sym}
use Rattle.plan_terms.specs.Terms.{graph_of, case_of}
use Rattle.net_core.proofs.Library.{err_from_is_err_and}
use Rattle.flow_import.{specs.Imports.{AreAlive, IsStateFault}, proofs.Carrying.state_imported, proofs.Importing.{all_alive, all_fit, exceeded_first, few_links, known_demands, known_links, off_state}, proofs.Splitting.all_even}
use Rattle.flow_import.proofs.states.import_state.Goals as goal

pub first_above-requires-clause-few : goal.first_above-requires-clause-few
first_above-requires-clause-few c = omega (arith, ap (λ (ns : List ℕ). length ns) c.deref-2.ensures.value, c.in_ok-loads.ensures.long, few_links c.args.instance.now.net.now.nodes c.args.instance.now.net.now.links c.args.instance.now.net.now.checked)

pub returns-in_err-routed-clause-fault : goal.returns-in_err-routed-clause-fault
returns-in_err-routed-clause-fault c =
    let p = case_of c.args.instance.now in
    let links = c.args.instance.now.net.now.links in
    let flows = c.args.flows.now in
    let known = known_links links c.args.instance.now.demands.now flows c.requires.flows in
    let alive = subst (λ g. AreAlive g flows) c.in_state.ensures.graph (all_alive (length links) flows c.in_ok-loads.loads.items known c.in_ok-loads.ensures (graph_of c.in_state.result) (rw c.deref.ensures.value at c.in_default.ensures)) in
    let r = err_from_is_err_and c.from_residual-in_err-routed.result c.from_residual-in_err-routed.ensures.1 in
    rw r.1 (subst (IsStateFault p c.args.caps.now c.args.state.0 flows) (sym r.2) (off_state p c.args.caps.now c.args.state.0 flows alive c.in_err-routed.field-0.0 c.in_err-routed.ensures.fault))

pub returns-in-Some-first_above-clause-fault : goal.returns-in-Some-first_above-clause-fault
returns-in-Some-first_above-clause-fault c =
    let p = case_of c.args.instance.now in
    let links = c.args.instance.now.net.now.links in
    let flows = c.args.flows.now in
    let loads = c.in_ok-loads.loads.items in
    let known = known_links links c.args.instance.now.demands.now flows c.requires.flows in
    let alive = subst (λ g. AreAlive g flows) c.in_state.ensures.graph (all_alive (length links) flows loads known c.in_ok-loads.ensures (graph_of c.in_state.result) (rw c.deref.ensures.value at c.in_default.ensures)) in
    let split = c.in_ok-routed.ensures.split in
    (refl, alive, all_even p flows c.in_ok-routed.routed split, exceeded_first (length links) flows loads known c.in_ok-loads.ensures c.args.caps.now c.in-Some-first_above.link.0 c.requires.caps (rw c.deref-2.ensures.value at c.in-Some-first_above.ensures))

pub returns-clause-routed : goal.returns-clause-routed
returns-clause-routed c =
    let p = case_of c.args.instance.now in
    let links = c.args.instance.now.net.now.links in
    let flows = c.args.flows.now in
    let loads = c.in_ok-loads.loads.items in
    let known = known_links links c.args.instance.now.demands.now flows c.requires.flows in
    let alive = subst (λ g. AreAlive g flows) c.in_state.ensures.graph (all_alive (length links) flows loads known c.in_ok-loads.ensures (graph_of c.in_state.result) (rw c.deref.ensures.value at c.in_default.ensures)) in
    let fit = all_fit (length links) flows loads known c.in_ok-loads.ensures c.args.caps.now (rw c.deref-2.ensures.value at c.in_default-first_above.ensures) in
    state_imported p c.args.caps.now c.args.state.0 flows c.in_ok-routed.routed (known_demands links c.args.instance.now.demands.now flows c.requires.flows) c.in_ok-routed.ensures.split alive fit
