use Rattle.std.proofs.Common.{◌≡◌, w64, to_z, of_z, ◌∙◌, arith}
use Rattle.net_core.proofs.Library.{w128, ints}
use Rattle.checked_fraction.proofs.Parts.{lowered}
use Rattle.checked_fraction.proofs.sum.Sum.lower_wide.Goals as goal

pub returns-clause-total : goal.returns-clause-total
returns-clause-total c =
    let p : to_z w128 (of_z w128 c.small_product.result) ≡ c.small_product.result = omega (arith, ints, c.small_product.ensures.bound) in
    let h : to_z w64 (of_z w64 c.high_part.result) ≡ c.high_part.result = omega (arith, ints, c.high_part.type_inv) in
    let l : to_z w64 (of_z w64 c.low_part.result) ≡ c.low_part.result = omega (arith, ints, c.low_part.type_inv) in
    lowered c.args.a.now c.args.size.now _ _ _ (p ∙ c.small_product.ensures.value) (h ∙ c.high_part.ensures.value) (l ∙ c.low_part.ensures.value)
    c.args.self.now.high c.lower_high.new.self.high _ c.args.self.now.low c.lower_high.new.self.low c.lower_high.ensures.high c.lower_high.ensures.low c.subtract.ensures.total
