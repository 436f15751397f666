use Rattle.std.proofs.Common.{◌+◌, arith}
use Rattle.key_rows.{specs.KeyRows.amounts, proofs.Left.{left_more, own_fits, left_after, left_next}}
use Rattle.key_rows.proofs.weights.key_value.Goals as goal

pub taken-left-requires-clause-fits : goal.taken-left-requires-clause-fits
taken-left-requires-clause-fits c = λ own.
    own_fits _ c.args.demand _ _ c.loop-i.left _ _ own (c.requires.positive c.loop-i.i c.loop-i-test.true own) c.loop-i.invariant.left
    (left_more c.args.owners.now c.args.weights.now c.args.demand c.args.all.now c.args.bound.now (amounts c.args.values.now) c.loop-i.i)
    (c.requires.left (c.loop-i.i + 1) (omega (arith, c.loop-i-test.true))) c.loop-i.invariant.low

pub overflow_sub-left : goal.overflow_sub-left
overflow_sub-left c = left_after c.loop-i.left c.taken-left.result _ _ _ c.loop-i.invariant.left
    (left_more c.args.owners.now c.args.weights.now c.args.demand c.args.all.now c.args.bound.now (amounts c.args.values.now) c.loop-i.i)
    c.taken-left.ensures (c.requires.left (c.loop-i.i + 1) (omega (arith, c.loop-i-test.true)))

pub loop-i-preserved : goal.loop-i-preserved
loop-i-preserved c =
    let more = left_more c.args.owners.now c.args.weights.now c.args.demand c.args.all.now c.args.bound.now (amounts c.args.values.now) c.loop-i.i in
    let le = left_after c.loop-i.left c.taken-left.result _ _ _ c.loop-i.invariant.left more c.taken-left.ensures (c.requires.left (c.loop-i.i + 1) (omega (arith, c.loop-i-test.true))) in
    record {
      left = left_next c.loop-i.left c.taken-left.result _ _ _ c.loop-i.invariant.left more c.taken-left.ensures le;
      low = omega (arith, c.loop-i.invariant.low);
    }
