use Rattle.std.proofs.Common.{arith, ◌≡◌, ◌/◌, ◌<◌, ◌^◌, ◌∙◌, pos, w64, to_z, length, sym, subst, div-le_self}
use Rattle.net_core.proofs.Library.{ints}
use Rattle.checked_fraction.{specs.Rows.{num, IsInLowestTerms}, proofs.Lowering.{lowered, too_wide}}
use Rattle.checked_fraction.proofs.lowest.lower.Goals as goal

pub returns-in-Some-clause-wide : goal.returns-in-Some-clause-wide
returns-in-Some-clause-wide c = too_wide (num c.args.raw.now) (length c.args.raw.now) c.args.whole.now _ _ c.requires.positive c.size_of_whole-size.ensures c.divisor_of-divisor.ensures.gcd c.in-Some.wide c.in-Some.ensures.wide

pub returns-clause-reduced : goal.returns-clause-reduced
returns-clause-reduced c =
    let size = c.size_of_whole-size.result in
    let den = size / c.divisor_of-divisor.result.value in
    let low = div-le_self size c.divisor_of-divisor.result.value in
    let back : to_z w64 den ≡ pos den = omega (arith, ints, low, c.requires.narrow, c.size_of_whole-size.ensures) in
    let row = lowered (num c.args.raw.now) (length c.args.raw.now) c.args.whole.now size _ c.requires.positive c.size_of_whole-size.ensures c.divisor_of-divisor.ensures.gcd
    (num c.write_over_list.new.nums) (λ k l. c.write_over_list.ensures.each k (omega (arith, l, c.requires.equal))) in
    rw back row

pub invariant_of-row-clause-positive : goal.invariant_of-row-clause-positive
invariant_of-row-clause-positive c =
    let size = c.size_of_whole-size.result in
    let den = size / c.divisor_of-divisor.result.value in
    let low = div-le_self size c.divisor_of-divisor.result.value in
    let back : to_z w64 den ≡ pos den = omega (arith, ints, low, c.requires.narrow, c.size_of_whole-size.ensures) in
    let row = lowered (num c.args.raw.now) (length c.args.raw.now) c.args.whole.now size _ c.requires.positive c.size_of_whole-size.ensures c.divisor_of-divisor.ensures.gcd
    (num c.write_over_list.new.nums) (λ k l. c.write_over_list.ensures.each k (omega (arith, l, c.requires.equal))) in
    rw back row.positive

pub invariant_of-row-clause-narrow_den : goal.invariant_of-row-clause-narrow_den
invariant_of-row-clause-narrow_den c =
    let size = c.size_of_whole-size.result in
    let den = size / c.divisor_of-divisor.result.value in
    let low = div-le_self size c.divisor_of-divisor.result.value in
    let back : to_z w64 den ≡ pos den = omega (arith, ints, low, c.requires.narrow, c.size_of_whole-size.ensures) in
    let narrow : den < 2 ^ 62 = omega (arith, ints, low, c.requires.narrow, c.size_of_whole-size.ensures) in
    rw back narrow

pub invariant_of-row-clause-lowest : goal.invariant_of-row-clause-lowest
invariant_of-row-clause-lowest c =
    let size = c.size_of_whole-size.result in
    let den = size / c.divisor_of-divisor.result.value in
    let low = div-le_self size c.divisor_of-divisor.result.value in
    let back : to_z w64 den ≡ pos den = omega (arith, ints, low, c.requires.narrow, c.size_of_whole-size.ensures) in
    let row = lowered (num c.args.raw.now) (length c.args.raw.now) c.args.whole.now size _ c.requires.positive c.size_of_whole-size.ensures c.divisor_of-divisor.ensures.gcd
    (num c.write_over_list.new.nums) (λ k l. c.write_over_list.ensures.each k (omega (arith, l, c.requires.equal))) in
    let there = subst (λ n. IsInLowestTerms n (num c.write_over_list.new.nums) (pos den)) (sym (c.write_over_list.ensures.length ∙ c.requires.equal)) row.lowest in
    rw back there
