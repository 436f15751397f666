use Rattle.std.proofs.Common.{◌≡◌, ◌+◌, ◌≤ℤ◌, length, pos, w64, to_z, of_z, ap, sym, subst, ◌∙◌, arith}
use Rattle.net_core.proofs.Library.{ints}
use Rattle.checked_fraction.specs.Terms.{num, IsNarrow}
use Rattle.key_rows.specs.KeyRows.{AreWeights, amounts, left_over_rows}
use Rattle.key_rows.proofs.ratio_test.key_candidate.Goals as goal

are_weights : (c : goal.After-all-2-1) → AreWeights c.args.keyed.now.rows c.args.keyed.now.owners c.items-3.result.now c.args.demand (to_z w64 (of_z w64 c.in-Some.all))
are_weights c =
    let b = c.args.keyed.now in
    let d = c.args.demand in
    let all = c.in-Some.all in
    let ws = c.weigh.new.weights in
    let some = c.in-Some.ensures.some in
    let back : to_z w64 (of_z w64 all) ≡ all = omega (arith, ints, some.narrow) in
    let rows = subst (λ xs. AreWeights xs c.items-2.result.now ws d all) c.items.ensures some in
    let owners = subst (λ xs. AreWeights b.rows xs ws d all) c.items-2.ensures rows in
    subst (AreWeights b.rows b.owners c.items-3.result.now d) (sym back) (subst (λ xs. AreWeights b.rows b.owners xs d all) (sym c.items-3.ensures) owners)

pub returns-in_default-clause-test : goal.returns-in_default-clause-test
returns-in_default-clause-test c =
    let none = c.in_default.ensures.none in
    let rows = rw c.items.ensures at none in
    rw c.items-2.ensures at rows

pub weighed_candidate-requires-clause-count : goal.weighed_candidate-requires-clause-count
weighed_candidate-requires-clause-count c = ap length c.items-3.ensures ∙ (c.weigh.ensures.count ∙ c.requires.room.weights)

pub weighed_candidate-requires-clause-narrow : goal.weighed_candidate-requires-clause-narrow
weighed_candidate-requires-clause-narrow c = λ i. subst (λ xs. IsNarrow (num xs i)) (sym c.items-3.ensures) (c.weigh.ensures.narrow i)

pub weighed_candidate-requires-clause-weights : goal.weighed_candidate-requires-clause-weights
weighed_candidate-requires-clause-weights c = are_weights c

pub weighed_candidate-requires-clause-values : goal.weighed_candidate-requires-clause-values
weighed_candidate-requires-clause-values c = λ n le.
    let b = c.args.keyed.now in
    let d = c.args.demand in
    let ws = c.items-3.result.now in
    let all = to_z w64 (of_z w64 c.in-Some.all) in
    subst (λ m. pos 0 ≤ℤ left_over_rows b.owners ws d all (num b.bounds (m + d)) (amounts b.values) n) (sym c.len.ensures) (c.requires.values ws all n (are_weights c) le)
