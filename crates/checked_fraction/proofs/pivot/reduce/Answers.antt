use Rattle.std.proofs.Common.{◌≡◌, w64, to_z, of_z, sym, subst, arith}
use Rattle.net_core.proofs.Library.{ints}
use Rattle.checked_fraction.{specs.Rows.{num, IsInLowestTerms}, proofs.Reduced.settled}
use Rattle.checked_fraction.proofs.pivot.reduce.Goals as goal

pub returns-clause-reduced : goal.returns-clause-reduced
returns-clause-reduced c =
    let found = rw c.items.ensures at c.in_ok-found.ensures.found in
    let narrow = found.narrow in
    let back : to_z w64 (of_z w64 c.in_ok-found.found.den) ≡ c.in_ok-found.found.den = omega (arith, ints, narrow) in
    let row = settled _ _ _ _ _ _ c.whole_of.ensures.positive found c.write_list.ensures.each c.whole_of.ensures.value in
    rw back row

pub invariant_of-row-clause-positive : goal.invariant_of-row-clause-positive
invariant_of-row-clause-positive c =
    let found = rw c.items.ensures at c.in_ok-found.ensures.found in
    let narrow = found.narrow in
    let back : to_z w64 (of_z w64 c.in_ok-found.found.den) ≡ c.in_ok-found.found.den = omega (arith, ints, narrow) in
    let row = settled _ _ _ _ _ _ c.whole_of.ensures.positive found c.write_list.ensures.each c.whole_of.ensures.value in
    rw back row.positive

pub invariant_of-row-clause-narrow_den : goal.invariant_of-row-clause-narrow_den
invariant_of-row-clause-narrow_den c =
    let narrow = c.in_ok-found.ensures.found.narrow in
    let back : to_z w64 (of_z w64 c.in_ok-found.found.den) ≡ c.in_ok-found.found.den = omega (arith, ints, narrow) in
    rw back narrow

pub invariant_of-row-clause-lowest : goal.invariant_of-row-clause-lowest
invariant_of-row-clause-lowest c =
    let found = rw c.items.ensures at c.in_ok-found.ensures.found in
    let narrow = found.narrow in
    let back : to_z w64 (of_z w64 c.in_ok-found.found.den) ≡ c.in_ok-found.found.den = omega (arith, ints, narrow) in
    let row = settled _ _ _ _ _ _ c.whole_of.ensures.positive found c.write_list.ensures.each c.whole_of.ensures.value in
    let there = subst (λ n. IsInLowestTerms n (num c.write_list.new.nums) c.in_ok-found.found.den) (sym c.write_list.ensures.length) row.lowest in
    rw back there
