use Rattle.std.proofs.Common.{Ok, ap}
use Rattle.report_parts.proofs.Once.{demand_once}
use Rattle.report_parts.proofs.demands.demand_places.Goals as goal

pub unreachable-requires : goal.unreachable-requires
unreachable-requires c =
    demand_once c.args.demands.now c.loop-demand.demand-index c.demand-item.result c.bytes.result.now c.loop-demand.places c.requires c.loop-demand-test.true c.demand-item.is c.bytes.ensures.value c.loop-demand.invariant (c.in_ok-add.ensures.old (ap Ok c.if-not-branch.true))
