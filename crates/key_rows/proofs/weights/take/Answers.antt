use Rattle.std.proofs.Common.{◌≡◌, to_z, of_z, ◌∙◌, arith}
use Rattle.net_core.proofs.Library.{w128, ints}
use Rattle.checked_fraction.specs.Terms.{total}
use Rattle.key_rows.proofs.Left.{taken_once}
use Rattle.key_rows.proofs.weights.take.Goals as goal

pub returns-then-owner-demand-clause-total : goal.returns-then-owner-demand-clause-total
returns-then-owner-demand-clause-total c =
    let back : to_z w128 (of_z w128 c.negated.result) ≡ c.negated.result = omega (arith, ints, c.negated.ensures.bound) in
    taken_once (total c.add_wide.new.self) (total c.args.sum.now) c.args.owner c.args.demand c.args.weight.now _ c.args.number.now c.if-owner-demand.true c.add_wide.ensures.total (back ∙ c.negated.ensures.value)
