use Rattle.std.proofs.Common.{length, refl}
use Rattle.net_core.proofs.Library.{slice_get_read}
use Rattle.flow_router.proofs.Flowing.{basis_flows_more}
use Rattle.flow_router.proofs.flows.basis_flows.Goals as goal

pub loop-j-preserved : goal.loop-j-preserved
loop-j-preserved c =
    let names = c.args.basis.now in
    basis_flows_more names c.args.values.now c.loop-j.j _ c.index-basis-j.result c.loop-j.flows c.push_flow.new.flows c.in_ok-flow_of.field-0 c.loop-j-test.true
    (slice_get_read names (length names) c.loop-j.j c.index-basis-j.result refl c.loop-j-test.true c.index-basis-j.is) refl c.in_ok-flow_of.ensures c.in_ok-push_flow.ensures c.loop-j.invariant
