use Rattle.std.proofs.Common.{length, arith, pos}
use Rattle.simplex_core.{specs.Tables.nums_at, proofs.Ratios.by_rows}
use Rattle.simplex_core.proofs.ratio_test.compare.Goals as goal

pub returns-in-Equal : goal.returns-in-Equal
returns-in-Equal c bound values =
    by_rows (length c.args.rows.now) bound (nums_at c.args.rows.now c.args.first.now.row) c.args.first.now.product (nums_at c.args.rows.now c.args.second.now.row) c.args.second.now.product
    (pos c.args.first.now.value) (pos c.args.second.now.value) c.compare_rows.result values.0 values.1 (c.in-Equal.ensures 0 (omega arith)) c.compare_rows.ensures
