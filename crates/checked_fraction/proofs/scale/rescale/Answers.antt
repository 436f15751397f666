use Rattle.std.proofs.Common.{◌≡◌, ◌<◌, ◌/◌, ◌^◌, pos, w64, to_z, sym, subst, arith, div-le_self}
use Rattle.net_core.proofs.Library.{ints}
use Rattle.checked_fraction.{specs.Rows.{num, IsInLowestTerms}, proofs.Reduced.made}
use Rattle.checked_fraction.proofs.scale.rescale.Goals as goal

pub returns-clause-reduced : goal.returns-clause-reduced
returns-clause-reduced c =
    let whole = c.unsigned_abs-whole.result in
    let den = whole / c.divisor_of-common.result in
    let low = div-le_self whole c.divisor_of-common.result in
    let back : to_z w64 den ≡ pos den = omega (arith, ints, low) in
    let divisor = rw c.items.ensures at c.divisor_of-common.ensures.gcd in
    let row = made _ _ whole _ _ c.args.q (omega (arith, ints)) divisor c.divide_list.ensures.each (omega (arith, ints)) in
    rw back row

pub invariant_of-row-clause-positive : goal.invariant_of-row-clause-positive
invariant_of-row-clause-positive c =
    let whole = c.unsigned_abs-whole.result in
    let den = whole / c.divisor_of-common.result in
    let low = div-le_self whole c.divisor_of-common.result in
    let back : to_z w64 den ≡ pos den = omega (arith, ints, low) in
    let divisor = rw c.items.ensures at c.divisor_of-common.ensures.gcd in
    let row = made _ _ whole _ _ c.args.q (omega (arith, ints)) divisor c.divide_list.ensures.each (omega (arith, ints)) in
    rw back row.positive

pub invariant_of-row-clause-narrow_den : goal.invariant_of-row-clause-narrow_den
invariant_of-row-clause-narrow_den c =
    let whole = c.unsigned_abs-whole.result in
    let den = whole / c.divisor_of-common.result in
    let low = div-le_self whole c.divisor_of-common.result in
    let back : to_z w64 den ≡ pos den = omega (arith, ints, low) in
    let narrow : den < 2 ^ 62 = omega (arith, ints, low) in
    rw back narrow

pub invariant_of-row-clause-lowest : goal.invariant_of-row-clause-lowest
invariant_of-row-clause-lowest c =
    let whole = c.unsigned_abs-whole.result in
    let den = whole / c.divisor_of-common.result in
    let low = div-le_self whole c.divisor_of-common.result in
    let back : to_z w64 den ≡ pos den = omega (arith, ints, low) in
    let divisor = rw c.items.ensures at c.divisor_of-common.ensures.gcd in
    let row = made _ _ whole _ _ c.args.q (omega (arith, ints)) divisor c.divide_list.ensures.each (omega (arith, ints)) in
    let there = subst (λ n. IsInLowestTerms n (num c.divide_list.new.nums) (pos den)) (sym c.divide_list.ensures.length) row.lowest in
    rw back there
