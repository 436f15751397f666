use Rattle.std.proofs.Common.{take}
use Rattle.plan_terms.specs.Terms.{sent}
use Rattle.plan_checker.proofs.FlowSums.{mixed_same, sent_more}
use Rattle.plan_checker.proofs.sums.add_flows.Goals as goal

pub loop-f-preserved : goal.loop-f-preserved
loop-f-preserved c =
    let f = c.f-item.result in
    record {
      each = c.add_at.ensures.each;
      sum = mixed_same _ _ _ _ (λ k. sent_more c.args.flows.now c.loop-f.f-index f k c.loop-f-test.true c.f-item.is) (c.add_at.ensures.sum (sent (take c.loop-f.f-index c.args.flows.now)) f.num c.loop-f.invariant.sum c.of.ensures.value);
    }
