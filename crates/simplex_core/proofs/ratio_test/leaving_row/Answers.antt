use Rattle.std.proofs.Common.{arith, subst, sym, length, Ok}
use Rattle.simplex_core.{specs.inner.Ratios.IsLeavingRow, proofs.Ratios.leaves}
use Rattle.simplex_core.proofs.ratio_test.leaving_row.Goals as goal

pub returns : goal.returns
returns c =
    let rows = c.args.rows.now in
    subst (λ r. IsLeavingRow (length rows) rows c.args.bounds.now c.args.products.now (Ok r)) (sym c.row_of.ensures)
    (leaves rows c.args.bounds.now c.args.products.now c.loop-i.i c.loop-i.best (omega arith) c.loop-i.invariant)
