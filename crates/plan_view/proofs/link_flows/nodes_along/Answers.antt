use Rattle.plan_view.proofs.Steps.{after_more, along_more}
use Rattle.plan_view.proofs.link_flows.nodes_along.Goals as goal

pub loop-e-preserved : goal.loop-e-preserved
loop-e-preserved c = (
  along_more c.args.links.now c.args.from c.args.path.now c.loop-e.e-index _ c.loop-e.here c.end_beyond-here.result c.loop-e.nodes c.push-in-loop-e.new.self
      c.loop-e-test.true c.loop-e.invariant.1 c.loop-e.invariant.0 c.end_beyond-here.ensures c.in_ok-push-2.ensures.ok,
  after_more c.args.links.now c.args.from c.args.path.now c.loop-e.e-index _ c.loop-e.here c.end_beyond-here.result
      c.loop-e-test.true c.loop-e.invariant.1 c.end_beyond-here.ensures,
)
