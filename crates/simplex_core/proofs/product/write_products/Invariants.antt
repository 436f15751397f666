use Rattle.std.proofs.Common.{◌≡◌, length}
use Rattle.simplex_core.specs.inner.Products.{AreProducts}
use Rattle.simplex_core.proofs.product.write_products.Given as goal

-- the products so far are written
abbrev pub invariant-loop-i : goal.invariant-loop-i
invariant-loop-i l = record {
  count : length l.products ≡ length l.rows;
  written : AreProducts l.rows l.entries l.products l.i;
}
