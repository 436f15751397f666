use Rattle.std.proofs.Common.{◌≡◌, length, to_z, of_z, ◌∙◌, arith}
use Rattle.net_core.proofs.Library.{w128, ints}
use Rattle.checked_fraction.specs.Terms.{num}
use Rattle.key_rows.{specs.Names.{uses, path_uses}, proofs.Products.left_product}
use Rattle.key_rows.proofs.sums.column_product.Goals as goal

pub returns-clause-value : goal.returns-clause-value
returns-clause-value c =
    let n = length c.args.nums.now in
    let row = num c.args.nums.now in
    let back : to_z w128 (of_z w128 c.difference.result) ≡ c.difference.result = omega (arith, ints, c.difference.ensures.bound) in
    let first : to_z w128 (of_z w128 c.name_sum.result) ≡ c.name_sum.result = omega (arith, ints, c.name_sum.ensures.bound) in
    let second : to_z w128 (of_z w128 c.path_sum.result) ≡ c.path_sum.result = omega (arith, ints, c.path_sum.ensures.bound) in
    back ∙ (c.difference.ensures.value ∙ left_product n row (uses c.args.name.now) (path_uses c.args.key.now) _ _ (first ∙ c.name_sum.ensures.value) (second ∙ c.path_sum.ensures.value))
