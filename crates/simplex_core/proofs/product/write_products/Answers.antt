use Rattle.std.proofs.Common.{◌≡◌, ◌≤◌, ◌^◌, ◌∙◌, length-set, subst, sym, arith, to_z, of_z, unsigned_abs}
use Rattle.net_core.proofs.Library.{w128, AllByRecursion, ints}
use Rattle.simplex_core.{specs.Columns.IsEntry, proofs.RowsRead.{numbers_at, width_at, dot_at, products_more}}
use Rattle.simplex_core.proofs.product.write_products.Goals as goal

pub row_product-requires-clause-entries : goal.row_product-requires-clause-entries
row_product-requires-clause-entries c =
    let rows = c.args.rows.now in
    let nums = c.nums.result.now in
    let is = numbers_at rows c.loop-i.i c.index-rows-i.result nums c.loop-i-test.true c.index-rows-i.is c.nums.ensures in
    subst (λ n. AllByRecursion (IsEntry n) c.args.entries.now) (sym (width_at rows c.loop-i.i nums c.loop-i-test.true c.requires.rectangle is)) c.requires.entries

pub returns-in_default-clause-products : goal.returns-in_default-clause-products
returns-in_default-clause-products c =
    let rows = c.args.rows.now in
    let nums = c.nums.result.now in
    let is = numbers_at rows c.loop-i.i c.index-rows-i.result nums c.loop-i-test.true c.index-rows-i.is c.nums.ensures in
    let wide = subst (λ z. 2 ^ 124 ≤ unsigned_abs z) (dot_at rows c.args.entries.now c.loop-i.i nums (width_at rows c.loop-i.i nums c.loop-i-test.true c.requires.rectangle is) is) c.in_default.ensures in
    (c.loop-i-test.true, omega (arith, wide))

pub loop-i-preserved : goal.loop-i-preserved
loop-i-preserved c =
    let rows = c.args.rows.now in
    let nums = c.nums.result.now in
    let p = c.in-Some.product in
    let is = numbers_at rows c.loop-i.i c.index-rows-i.result nums c.loop-i-test.true c.index-rows-i.is c.nums.ensures in
    let whole = c.in-Some.ensures.0 ∙ dot_at rows c.args.entries.now c.loop-i.i nums (width_at rows c.loop-i.i nums c.loop-i-test.true c.requires.rectangle is) is in
    let back : to_z w128 (of_z w128 p) ≡ p = omega (arith, ints, c.in-Some.ensures.1) in
    record {
      count = length-set c.loop-i.products c.loop-i.i (to_z w128 (of_z w128 p)) ∙ c.loop-i.invariant.count;
      written = products_more rows c.args.entries.now c.loop-i.products c.loop-i.i (to_z w128 (of_z w128 p)) (omega (arith, c.loop-i-test.true, c.loop-i.invariant.count)) c.loop-i.invariant.written
          (back ∙ whole) (omega (arith, ints, back, c.in-Some.ensures.1));
    }
