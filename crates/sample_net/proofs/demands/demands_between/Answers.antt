use Rattle.std.proofs.Common.{ℕ, get_or}
use Rattle.sample_net.{specs.Draws.nth_draw, specs.Samples.sample_demand, proofs.Sequence.{one_more, step_more}, proofs.Takes.demand_taken}
use Rattle.sample_net.proofs.demands.demands_between.Goals as goal

pub loop-k-preserved : goal.loop-k-preserved
loop-k-preserved c =
    let x = c.args.draws.now.number in
    let pairs = c.args.pairs.now in
    let k = c.loop-k.k in (
      rw (c.in_ok-push.ensures.ok) (
          one_more (λ (p : ℕ). sample_demand p (get_or pairs p (0, 0)) (nth_draw x p 40)) c.loop-k.demands k c.in_ok-demand.field-0 c.loop-k.invariant.0
          (demand_taken x c.loop-k.draws.number k (get_or pairs k (0, 0)) c.in_ok-demand.field-0 c.loop-k.invariant.1 c.in_ok-demand.ensures.demand)
          ),
      step_more x c.loop-k.draws.number _ k c.in_ok-demand.ensures.draws c.loop-k.invariant.1,
    )
