use Rattle.std.proofs.Common.{◌≡◌, length, w64, to_z, of_z, sym, subst, arith}
use Rattle.net_core.proofs.Library.{ints}
use Rattle.checked_fraction.specs.Terms.{num, IsNarrow, IsReduced}
use Rattle.simplex_core.specs.Terms.{IsRectangle}
use Rattle.key_rows.specs.KeyRows.{less_rows, IsWideKey}
use Rattle.key_rows.proofs.key_row.spread_key.Goals as goal

pub returns-in_default-clause-wide : goal.returns-in_default-clause-wide
returns-in_default-clause-wide c =
    let none = c.in_default.ensures.none in
    let rows = rw c.items-rows.ensures at none in
    rw c.items-owners.ensures at rows

pub returns-else-done-clause-wide : goal.returns-else-done-clause-wide
returns-else-done-clause-wide c =
    let are = c.in-Some.ensures.some in
    let are_rows = rw c.items-rows.ensures at are in
    let are_owners = rw c.items-owners.ensures at are_rows in
    let wide = c.key_row-done.ensures.wide c.if-done.false in
    let wide_rows = rw c.items-rows.ensures at wide in
    let wide_owners = rw c.items-owners.ensures at wide_rows in
    let wide_weights = rw c.items.ensures at wide_owners in
    let back : to_z w64 (of_z w64 c.in-Some.all) ≡ c.in-Some.all = omega (arith, ints, are.narrow) in
    let b = c.args.keyed.now in
    (c.weigh.new.weights, c.in-Some.all, are_owners, subst (λ x. IsWideKey (less_rows b.rows b.owners c.weigh.new.weights c.args.demand (length b.rows)) (length b.rows) x) back wide_weights)

pub key_row-done-requires-clause-rectangle : goal.key_row-done-requires-clause-rectangle
key_row-done-requires-clause-rectangle c = subst (λ xs. IsRectangle (length xs) xs) (sym c.items-rows.ensures) c.requires.shaped.rectangle

pub key_row-done-requires-clause-weights : goal.key_row-done-requires-clause-weights
key_row-done-requires-clause-weights c = λ i. subst (λ xs. IsNarrow (num xs i)) (sym c.items.ensures) (c.weigh.ensures.narrow i)

pub returns-then-done-clause-row : goal.returns-then-done-clause-row
returns-then-done-clause-row c =
    let b = c.args.keyed.now in
    let ws = c.weigh.new.weights in
    let row = c.key_row-done.new.row in
    let are = c.in-Some.ensures.some in
    let are_rows = rw c.items-rows.ensures at are in
    let are_owners = rw c.items-owners.ensures at are_rows in
    let low = c.key_row-done.ensures.done c.if-done.true in
    let low_rows = rw c.items-rows.ensures at low in
    let low_owners = rw c.items-owners.ensures at low_rows in
    let low_weights = rw c.items.ensures at low_owners in
    let back : to_z w64 (of_z w64 c.in-Some.all) ≡ c.in-Some.all = omega (arith, ints, are.narrow) in
    record {
      weights = ws;
      all = c.in-Some.all;
      are = are_owners;
      reduced = subst (λ x. IsReduced (length b.rows) (less_rows b.rows b.owners ws c.args.demand (length b.rows)) x (num row.nums) row.den) back low_weights;
    }
