use Rattle.std.proofs.Common.{◌≡◌, ◌<◌, ◌≤◌, ◌^◌, length, to_z, of_z, unsigned_abs, slice_get, Some, ap, sym, ◌∙◌, arith}
use Rattle.net_core.proofs.Library.{w128, ints, slice_get-get_or}
use Rattle.simplex_law.specs.Terms.{dot}
use Rattle.simplex_core.specs.Terms.{nums_at}
use Rattle.key_rows.{specs.Names.left_uses, proofs.Listing.{each_more, product_at}}
use Rattle.key_rows.proofs.keys.write_products.Goals as goal

pub loop-i-preserved : goal.loop-i-preserved
loop-i-preserved c =
    let rows = c.args.rows.now in
    let i = c.loop-i.i in
    let row = c.index-rows-i.result in
    let v = c.column_product.result in
    let at : slice_get rows i ≡ Some row = slice_get-get_or rows i row c.loop-i-test.true ∙ ap Some (sym c.index-rows-i.is) in
    let back : to_z w128 (of_z w128 v) ≡ v = omega (arith, ints, c.column_product.ensures.bound) in
    let inside : i < length c.loop-i.products = omega (arith, c.loop-i-test.true, c.loop-i.auto.products, c.requires.count) in
    rw back (record {
      products = each_more (λ j x. x ≡ dot (length rows) (nums_at rows j) (left_uses c.args.name.now c.args.key.now)) c.loop-i.products i v inside c.loop-i.invariant.products
          (product_at rows (length rows) i row c.nums.result.now (left_uses c.args.name.now c.args.key.now) v c.requires.rectangle c.loop-i-test.true at c.nums.ensures c.column_product.ensures.value);
      low = each_more (λ j x. unsigned_abs x ≤ 2 ^ 71) c.loop-i.products i v inside c.loop-i.invariant.low c.column_product.ensures.bound;
    })
