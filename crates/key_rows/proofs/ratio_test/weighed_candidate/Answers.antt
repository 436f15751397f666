use Rattle.std.proofs.Common.{◌≡◌, ◌+◌, ◌≤◌, ◌^◌, ℤ, pos, unsigned_abs, length, get_or, to_z, of_z, sym, subst, ◌∙◌, arith}
use Rattle.net_core.proofs.Library.{w128, ints}
use Rattle.checked_fraction.specs.Terms.{num, IsNarrow}
use Rattle.key_rows.{specs.KeyRows.{amounts, left_over_rows}, specs.KeyTests.product_over, specs.inner.Candidates.value_over, proofs.Testing.{weight_positive, tested}}
use Rattle.key_rows.proofs.ratio_test.weighed_candidate.Goals as goal

pub step_of-requires-clause-low : goal.step_of-requires-clause-low
step_of-requires-clause-low c = rw c.items.ensures (λ i l. c.requires.low i (omega (arith, l, c.requires.shaped.products)))

pub key_value-value-requires-clause-left : goal.key_value-value-requires-clause-left
key_value-value-requires-clause-left c =
    rw (c.items-owners.ensures, c.items-2.ensures, c.items-3.ensures) (λ n l. c.requires.values n (omega (arith, l, c.requires.shaped.owners)))

pub key_value-value-requires-clause-positive : goal.key_value-value-requires-clause-positive
key_value-value-requires-clause-positive c =
    let b = c.args.keyed.now in
    rw c.items-owners.ensures (λ i l own. weight_positive b.rows b.owners c.args.weights.now c.args.demand i c.args.all.now c.requires.weights (omega (arith, l, c.requires.shaped.owners)) own)

pub key_value-value-requires-clause-bound : goal.key_value-value-requires-clause-bound
key_value-value-requires-clause-bound c = subst (λ xs. IsNarrow (num xs c.args.role)) (sym c.items-2.ensures) (c.requires.shaped.narrow_bounds c.args.role)

pub returns-in_default : goal.returns-in_default
returns-in_default c =
    let b = c.args.keyed.now in
    let ws = c.args.weights.now in
    let d = c.args.demand in
    let all = c.args.all.now in
    let own = c.args.own.now in
    let owners = subst (λ os. 2 ^ 124 ≤ unsigned_abs (left_over_rows os ws d all own (num c.items.result.now) (length os))) c.items-owners.ensures c.in_default.ensures in
    let products = subst (λ xs. 2 ^ 124 ≤ unsigned_abs (left_over_rows b.owners ws d all own (num xs) (length b.owners))) c.items.ensures owners in
    (c.requires.role, (ws, all, c.requires.weights, subst (λ n. 2 ^ 124 ≤ unsigned_abs (left_over_rows b.owners ws d all own (num b.products) n)) c.requires.shaped.owners products))

pub returns : goal.returns
returns c =
    let b = c.args.keyed.now in
    let ws = c.args.weights.now in
    let d = c.args.demand in
    let all = c.args.all.now in
    let own = c.args.own.now in
    let role = c.args.role in
    let step = to_z w128 (of_z w128 c.in-Some.step) in
    let value = c.key_value-value.result in
    let back : step ≡ c.in-Some.step = omega (arith, ints, c.in-Some.ensures.1) in
    let step_owners = subst (λ os. c.in-Some.step ≡ left_over_rows os ws d all own (num c.items.result.now) (length os)) c.items-owners.ensures c.in-Some.ensures.0 in
    let step_products = subst (λ xs. c.in-Some.step ≡ left_over_rows b.owners ws d all own (num xs) (length b.owners)) c.items.ensures step_owners in
    let is_step : step ≡ product_over b d ws all own = back ∙ subst (λ n. c.in-Some.step ≡ left_over_rows b.owners ws d all own (num b.products) n) c.requires.shaped.owners step_products in
    let bound : ℤ = get_or c.items-2.result.now role (pos 0) in
    let value_owners = subst (λ os. pos value ≡ left_over_rows os ws d all bound (amounts c.items-3.result.now) (length os)) c.items-owners.ensures c.key_value-value.ensures in
    let value_bounds = subst (λ bs. pos value ≡ left_over_rows b.owners ws d all (num bs role) (amounts c.items-3.result.now) (length b.owners)) c.items-2.ensures value_owners in
    let value_values = subst (λ vs. pos value ≡ left_over_rows b.owners ws d all (num b.bounds role) (amounts vs) (length b.owners)) c.items-3.ensures value_bounds in
    let value_role = subst (λ r. pos value ≡ left_over_rows b.owners ws d all (num b.bounds r) (amounts b.values) (length b.owners)) c.requires.role value_values in
    let is_value : pos value ≡ value_over b d ws all = subst (λ n. pos value ≡ left_over_rows b.owners ws d all (num b.bounds (length b.rows + d)) (amounts b.values) n) c.requires.shaped.owners value_role in
    tested b d own ws all role value step c.requires.weights is_step is_value c.requires.role c.positive_candidate.result c.positive_candidate.ensures
