use Rattle.std.proofs.Common.{length, arith}
use Rattle.checked_fraction.specs.Terms.{num}
use Rattle.simplex_core.proofs.Pivots.{combined_next}
use Rattle.simplex_core.proofs.pivot.combine_rows.Goals as goal

pub loop-i-preserved : goal.loop-i-preserved
loop-i-preserved c =
    combined_next (length c.args.pivot.now.nums) c.args.rows.now c.loop-i.rows c.combine_at.new.rows c.args.products.now (num c.args.pivot.now.nums) (num c.args.products.now c.args.r) c.args.r c.loop-i.i
    c.loop-i.invariant c.in_ok-combine_at.ensures.combined (omega arith)
