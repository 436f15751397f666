use Rattle.std.proofs.Common.{arith, length, ◌*ℤ◌}
use Rattle.net_core.proofs.Library.{ints}
use Rattle.master_bound.proofs.Costs.{cost_more, gained, none_gained, used_up}
use Rattle.master_bound.proofs.pricing.surplus_of.Goals as goal

pub returns-then-rating-le0 : goal.returns-then-rating-le0
returns-then-rating-le0 c =
    none_gained c.args.duals.now c.args.pairs.now c.args.lengths.now (length c.args.lengths.now) c.args.rating.now.gain c.requires.positive c.args.duals.now.positive (omega (arith, ints, c.if-rating-le0.true))

pub loop-e-init : goal.loop-e-init
loop-e-init c =
    gained c.size_of.result c.size_of-2.result c.args.rating.now.gain c.args.duals.now.den (omega (arith, ints, c.if-rating-le0.false)) c.args.duals.now.positive c.size_of.ensures.same c.size_of-2.ensures.same

pub returns-then-cost-rest : goal.returns-then-cost-rest
returns-then-cost-rest c =
    used_up c.args.duals.now c.args.pairs.now c.args.lengths.now c.loop-e.e (length c.args.lengths.now) c.loop-e.rest c.cost_at-cost.result (c.args.duals.now.den *ℤ c.args.rating.now.gain)
    c.requires.positive c.loop-e-test.true (rw c.nums.ensures at c.cost_at-cost.ensures.cost) c.loop-e.invariant.1 c.if-cost-rest.true

pub loop-e-preserved : goal.loop-e-preserved
loop-e-preserved c =
    let more = cost_more c.args.duals.now c.args.pairs.now c.args.lengths.now c.loop-e.e c.cost_at-cost.result (rw c.nums.ensures at c.cost_at-cost.ensures.cost) in
    (omega (arith, c.if-cost-rest.false), omega (arith, ints, more, c.loop-e.invariant.1, c.if-cost-rest.false))
