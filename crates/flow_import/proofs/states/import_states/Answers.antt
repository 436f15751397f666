use Rattle.std.proofs.Common.{◌+◌, ◌<◌, List, length, subst, sym, arith}
use Rattle.net_core.proofs.Library.{err_from_is_err_and}
use Rattle.plan_terms.specs.Terms.{case_of}
use Rattle.flow_file.specs.declared.flow.LinkFlow.{LinkFlow}
use Rattle.flow_import.{specs.Imports.{IsImportFault, IsImportedState}, specs.inner.Steps.AreImportedTo, proofs.Importing.{fault_after, imported_more}}
use Rattle.flow_import.proofs.states.import_states.Goals as goal

pub loop-s-preserved : goal.loop-s-preserved
loop-s-preserved c =
    let p = case_of c.args.instance.now in
    let caps = c.args.caps.now in
    let all = c.args.flows.now in
    let s = c.loop-s.s in
    let within : s < length all = omega (arith, c.loop-s-test.true, c.count-s-end.ensures, c.requires.long) in
    subst (AreImportedTo p caps all (s + 1)) (sym c.in-Ok.ensures.ok)
    (imported_more p caps all s c.loop-s.routings c.in_ok-routing.routing within c.loop-s.invariant
    (subst (λ (fs : List LinkFlow). IsImportedState p caps s fs c.in_ok-routing.routing) c.flows_in.ensures c.in_ok-routing.ensures.routed))

pub returns-in_err-routing-clause-fault : goal.returns-in_err-routing-clause-fault
returns-in_err-routing-clause-fault c =
    let p = case_of c.args.instance.now in
    let r = err_from_is_err_and c.from_residual.result c.from_residual.ensures.1 in
    rw r.1 (subst (IsImportFault p c.args.caps.now c.args.flows.now) (sym r.2)
    (fault_after p c.args.caps.now c.args.flows.now c.loop-s.s c.loop-s.routings c.in_err-routing.field-0.0 (omega (arith, c.loop-s-test.true, c.count-s-end.ensures)) c.loop-s.invariant
    (rw c.flows_in.ensures at c.in_err-routing.ensures.fault)))
