use Rattle.std.proofs.Common.{arith, refl}
use Rattle.net_core.proofs.Library.{slice_get_read}
use Rattle.key_rows.proofs.Rows.{row_more}
use Rattle.key_rows.proofs.key_row.raw_at.Goals as goal

pub loop-i-preserved : goal.loop-i-preserved
loop-i-preserved c = record {
  sum = row_more c.args.rows.now c.args.owners.now c.args.weights.now c.args.demand c.loop-i.i c.args.k c.index-rows-i.result _ _ (slice_get_read c.args.rows.now _ c.loop-i.i c.index-rows-i.result refl c.loop-i-test.true c.index-rows-i.is) c.loop-i.invariant.sum c.take_row.ensures.total;
  high = omega (arith, c.take_row.ensures.high, c.loop-i.invariant.high);
  low = omega (arith, c.take_row.ensures.low, c.loop-i.invariant.low);
}
