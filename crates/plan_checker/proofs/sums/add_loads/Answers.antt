use Rattle.std.proofs.Common.{take, subst, ◌+◌, ◌*◌}
use Rattle.module_choice.specs.inner.Routes.{times, weight}
use Rattle.plan_checker.{specs.inner.Mixed.AreMixed, proofs.FlowSums.{mixed_same, weight_more}}
use Rattle.plan_checker.proofs.sums.add_loads.Goals as goal

pub loop-f-preserved : goal.loop-f-preserved
loop-f-preserved c =
    let f = c.f-item.result in
    let before = weight (take c.loop-f.f-index c.args.flows.now) in
    record {
      each = c.add_path.ensures.each;
      sum = mixed_same _ _ _ _ (λ e. weight_more c.args.flows.now c.loop-f.f-index f e c.loop-f-test.true c.f-item.is)
          (subst (λ path. AreMixed c.args.den (λ e. before e + f.num * times e path) c.add_path.new.sums) c.items.ensures (c.add_path.ensures.sum before f.num c.loop-f.invariant.sum c.of.ensures.value));
    }
