use Rattle.std.{proofs.Common.{subst, sym}, specs.Int.◌∣◌}
use Rattle.plan_terms.specs.Terms.{Flow}
use Rattle.share_covers.proofs.Sharing.{over_next}
use Rattle.share_covers.proofs.shared_routes.flows_over.Goals as goal

pub loop-flow-preserved : goal.loop-flow-preserved
loop-flow-preserved c =
    let divides = subst (λ (f : Flow). c.args.divisor ∣ f.num) (sym c.flow-item.is) (c.requires.divides c.loop-flow.flow-index c.flow-item.result c.loop-flow-test.true) in
    rw (c.in_ok-push.ensures.ok, c.in_ok-copy.ensures)
    (over_next c.args.divisor c.args.flows.now c.loop-flow.over c.loop-flow.flow-index c.flow-item.result c.loop-flow-test.true c.flow-item.is divides c.loop-flow.invariant)
