use Rattle.std.proofs.Common.{arith, subst, sym, ◌∙◌}
use Rattle.simplex_core.{specs.inner.Shapes.IsStartBasis, specs.declared.basis.Basis.Basis, proofs.Starts.start}
use Rattle.simplex_core.proofs.basis.slack_basis.Goals as goal

pub returns : goal.returns
returns g c =
    let cols = c.args.cols.now in
    let b : Basis g.row.C-Name.Denot = record {
      names = c.in_ok-names.names;
      rows = c.in_ok-rows.rows;
      duals = c.in_ok-duals.duals;
      bounds = c.in_ok-bounds.bounds;
      products = c.in_ok-products.products;
      spare = c.in_ok-spare.spare;
    } in
    let n = c.rows-n.ensures in
    subst (λ m. IsStartBasis m (g.C.Columns.bound cols) (g.C.Columns.slack cols) b) n
    (start c.rows-n.result (g.C.Columns.bound cols) (g.C.Columns.slack cols) b (omega (arith, c.rows-n.type_inv))
    (λ k l. c.requires k (omega (arith, n, l)))
    (c.in_ok-names.ensures.count ∙ sym n) c.in_ok-names.ensures.names
    c.in_ok-rows.ensures.count c.in_ok-rows.ensures.units
    (c.in_ok-bounds.ensures.count ∙ sym n) c.in_ok-bounds.ensures.bounds
    c.in_ok-duals.ensures.0 c.in_ok-duals.ensures.1 c.in_ok-products.ensures c.in_ok-spare.ensures.0)
