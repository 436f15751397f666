use Rattle.std.proofs.Common.{length, refl}
use Rattle.net_core.proofs.Library.{slice_get_read}
use Rattle.plan_terms.specs.Terms.{Joins, graph_of}
use Rattle.module_choice.proofs.Routing.{flows_routing, flows_taken, flows_total}
use Rattle.module_choice.proofs.routes.route_all.Goals as goal

pub loop-k-preserved : goal.loop-k-preserved
loop-k-preserved c =
    let p = c.args.paths.now in
    let demands = c.args.demands.now in
    let d = c.index-demands-k.result in
    flows_taken (Joins (graph_of p.graph)) p.lengths demands c.loop-k.k c.loop-k.flows c.take_demand.new.flows d (slice_get_read demands (length demands) c.loop-k.k d refl c.loop-k-test.true c.index-demands-k.is) c.in_ok-take_demand.ensures c.loop-k.invariant

pub returns-clause-routed : goal.returns-clause-routed
returns-clause-routed c = let p = c.args.paths.now in flows_routing (Joins (graph_of p.graph)) p.lengths c.args.demands.now c.loop-k.k c.loop-k.flows c.loop-k-test.false c.loop-k.invariant

pub returns-clause-total : goal.returns-clause-total
returns-clause-total c = let p = c.args.paths.now in flows_total (Joins (graph_of p.graph)) p.lengths c.args.demands.now c.loop-k.k c.loop-k.flows c.loop-k-test.false c.loop-k.invariant
