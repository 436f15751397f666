use Rattle.std.proofs.Common.{◌≡◌, ◌<◌, ◌⊎◌, length, Some, inl, subst, arith}
use Rattle.checked_fraction.specs.Terms.{num}
use Rattle.simplex_law.specs.Terms.{IsWide}
use Rattle.simplex_core.{specs.Terms.{IsNarrowOver, FindsWideProduct}, proofs.Divided.has_pivot}
use Rattle.key_paths.proofs.RowTurning.{pivot, product_wide}
use Rattle.key_paths.proofs.turns.turn_row.Goals as goal

pub wide_product-requires-clause-positive : goal.wide_product-requires-clause-positive
wide_product-requires-clause-positive c =
    let p = c.requires.enters in
    rw c.items.ensures (pivot c.args.i c.args.cost.now p.entering p.priced c.requires.inside)

pub replace-requires-clause-pivot : goal.replace-requires-clause-pivot
replace-requires-clause-pivot c =
    let p = c.requires.enters in
    let s = p.entering.held.keyed.shaped in
    has_pivot c.args.keyed.now.products c.items.result.now c.args.cost.now (length c.args.keyed.now.rows) c.args.i c.items.ensures s.products (omega (arith, s.short)) c.requires.inside
    (pivot c.args.i c.args.cost.now p.entering p.priced c.requires.inside) c.in-None.ensures

pub replace-requires-clause-over : goal.replace-requires-clause-over
replace-requires-clause-over c = subst (λ xs. IsNarrowOver (num xs c.args.i) c.args.cost.now) c.items.ensures (c.in-None.ensures.1)

pub returns-in-Some-clause-turned : goal.returns-in-Some-clause-turned
returns-in-Some-clause-turned c =
    let b = c.args.keyed.now in
    let k = c.in-Some.k in
    let found = subst (λ xs. FindsWideProduct xs c.args.cost.now c.args.i (Some k)) c.items.ensures c.in-Some.ensures in
    let by_places = rw c.items-in-Some.ensures at c.product_place-place.ensures in
    let at = rw c.len-links.ensures at by_places in
    λ bound basis place role column e priced.
    let s = e.held.keyed.shaped in
    inl (product_wide c.args.i c.args.cost.now e priced c.requires.inside k c.product_place-place.result
    (subst (λ n. ((k ≡ n) × IsWide c.args.cost.now) ⊎ ((k < n) × IsWide (num b.products k))) s.products found) at)
