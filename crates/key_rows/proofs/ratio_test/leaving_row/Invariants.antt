use Rattle.std.proofs.Common.{ℕ, ℤ, length}
use Rattle.net_core.proofs.Library.{ForSome}
use Rattle.key_rows.{specs.KeyRows.HaveValues, specs.inner.Orders.{IsPlacedRow, IsBestRow}}
use Rattle.key_rows.proofs.ratio_test.leaving_row.Given as goal

-- the first of the rows so far
abbrev pub invariant-loop-i : goal.invariant-loop-i
invariant-loop-i l = record {
  placed : ForSome l.best (IsPlacedRow (length l.rows));
  first : (rest : ℕ → ℤ) → HaveValues (length l.rows) l.rows rest l.values → IsBestRow (length l.rows) l.rows rest l.values l.products l.i l.best;
}
