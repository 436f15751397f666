use Rattle.std.proofs.Common.{◌≡◌, ◌^◌, ◌*ℤ◌, to_z, of_z, arith}
use Rattle.net_core.proofs.Library.{w128, fits_signed_mul, ints}
use Rattle.checked_fraction.proofs.Products.{narrow_product}
use Rattle.checked_fraction.proofs.sum.product.Goals as goal

pub overflow_mul-result : goal.overflow_mul-result
overflow_mul-result c =
    let x = c.args.a.now in
    let y = c.args.b.now in
    let a : to_z w128 (of_z w128 c.widen.result) ≡ x = omega (arith, ints, c.widen.ensures, c.requires.a) in
    let b : to_z w128 (of_z w128 c.widen-2.result) ≡ y = omega (arith, ints, c.widen-2.ensures, c.requires.b) in
    rw (a, b) (fits_signed_mul w128 x y (2 ^ 62) (2 ^ 62) (omega (arith, c.requires.a)) (omega (arith, c.requires.b)) (omega arith))

pub returns-clause-bound : goal.returns-clause-bound
returns-clause-bound c =
    let x = c.args.a.now in
    let y = c.args.b.now in
    let a : to_z w128 (of_z w128 c.widen.result) ≡ x = omega (arith, ints, c.widen.ensures, c.requires.a) in
    let b : to_z w128 (of_z w128 c.widen-2.result) ≡ y = omega (arith, ints, c.widen-2.ensures, c.requires.b) in
    let bound = narrow_product x y c.requires.a c.requires.b in
    let back : to_z w128 (of_z w128 (x *ℤ y)) ≡ x *ℤ y = omega (arith, ints, bound) in
    rw (a, b, back) bound
