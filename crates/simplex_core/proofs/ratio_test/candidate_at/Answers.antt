use Rattle.std.proofs.Common.{refl, subst, sym, arith, ◌≡◌, ◌<◌, ◌^◌, Some, None, to_z, of_z, pos, unsigned_abs, ◌<ℤ◌}
use Rattle.net_core.proofs.Library.{ints, w128}
use Rattle.checked_fraction.specs.Terms.{num}
use Rattle.simplex_core.proofs.RowsRead.{numbers_at, value_at_row, width_at}
use Rattle.simplex_core.proofs.ratio_test.candidate_at.Goals as goal

pub returns-in-Some-clause-ok : goal.returns-in-Some-clause-ok
returns-in-Some-clause-ok c =
    let rows = c.args.rows.now in
    let nums = c.nums.result.now in
    let is = numbers_at rows c.args.i c.index-rows-i.result nums c.requires.inside c.index-rows-i.is c.nums.ensures in
    let here = value_at_row rows (num c.args.bounds.now) c.args.i nums (Some c.in-Some.value) (width_at rows c.args.i nums c.requires.inside c.requires.rows.rectangle is) is c.in-Some.ensures in
    let product : num c.args.products.now c.args.i ≡ to_z w128 (of_z w128 (num c.args.products.now c.args.i)) = omega (arith, ints, c.requires.low) in
    let value : to_z w128 (of_z w128 c.in-Some.value) ≡ c.in-Some.value = omega (arith, ints, here.1) in
    record {
      placed = record {
        inside = c.requires.inside;
        positive = subst (λ x. pos 0 <ℤ x) product c.requires.positive;
        low = subst (λ x. unsigned_abs x < 2 ^ 126) product c.requires.low;
      };
      value = omega (arith, ints, c.unsigned_abs.ensures.value, value, here.0, c.requires.value);
      product = sym product;
    }

pub returns-in-None-clause-wide : goal.returns-in-None-clause-wide
returns-in-None-clause-wide c =
    let rows = c.args.rows.now in
    let nums = c.nums.result.now in
    let is = numbers_at rows c.args.i c.index-rows-i.result nums c.requires.inside c.index-rows-i.is c.nums.ensures in
    (refl, value_at_row rows (num c.args.bounds.now) c.args.i nums None (width_at rows c.args.i nums c.requires.inside c.requires.rows.rectangle is) is c.in-None.ensures)
