use Rattle.std.proofs.Common.{◌-ℤ◌, ap, sym, ◌∙◌, arith, ◌*ℤ◌}
use Rattle.checked_fraction.specs.Terms.{num}
use Rattle.key_rows.{specs.KeyRows.times_taken, proofs.Left.left_more}
use Rattle.key_rows.proofs.weights.step_of.Goals as goal

pub loop-i-preserved : goal.loop-i-preserved
loop-i-preserved c = record {
  sum = c.take.ensures.total
      ∙ (ap (λ x. x -ℤ (times_taken c.args.owners.now c.args.weights.now c.args.demand c.loop-i.i *ℤ num c.args.products.now c.loop-i.i)) c.loop-i.invariant.sum
      ∙ sym (left_more c.args.owners.now c.args.weights.now c.args.demand c.args.all.now c.args.own.now (num c.args.products.now) c.loop-i.i));
  high = omega (arith, c.take.ensures.high, c.loop-i.invariant.high);
  low = omega (arith, c.take.ensures.low, c.loop-i.invariant.low);
}
