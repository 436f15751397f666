use Rattle.std.proofs.Common.{◌≡◌, pos, length, to_z, of_z, slice_get, Some, inl, refl, sym, ap, ◌∙◌, subst, arith, ◌<ℤ◌}
use Rattle.net_core.proofs.Library.{w128, ints, slice_get-get_or, err_from_is_err_and}
use Rattle.checked_fraction.specs.Terms.{num, IsNarrow}
use Rattle.simplex_core.specs.Terms.{nums_of}
use Rattle.key_rows.{specs.inner.Candidates.{IsLowered, IsWideRowTest}, proofs.Stepping.decided}
use Rattle.key_rows.proofs.tie.tie_with_row.Goals as goal

pub returns-clause-tie : goal.returns-clause-tie
returns-clause-tie c =
    let b = c.args.entrant.now.keyed.now in
    let name = c.args.entrant.now.name.now in
    let key = c.args.entrant.now.key.now in
    let x = c.args.x.now in
    let best = c.args.best.now in
    let spare = c.positive_step.new.room.spare in
    let p = c.in_ok-product.product in
    let row = c.index-items-best.result in
    let back : to_z w128 (of_z w128 p) ≡ p = omega (arith, ints, c.positive_step.type_inv) in
    let is = rw c.items.ensures at c.index-items-best.is in
    let at : slice_get b.rows best.role ≡ Some row = slice_get-get_or b.rows best.role row c.requires.best.0 ∙ ap Some (sym is) in
    let first = subst (λ z. IsLowered b name key x z (to_z w128 (of_z w128 p))) (sym c.nums.ensures) (subst (λ z. IsLowered b name key x spare.nums z) (sym back) c.in_ok-product.ensures.lowered) in
    decided b name key x best c.nums.result.now c.nums-2.result.now (to_z w128 (of_z w128 p)) best.product (length c.nums.result.now) (ap length c.nums.ensures ∙ c.in_ok-product.ensures.room.spare)
    first (inl (c.requires.best.0, c.nums-2.ensures ∙ ap nums_of (sym at), refl)) c.tie_first.result c.tie_first.ensures.yes c.tie_first.ensures.no

pub returns-in_err-product-clause-wide : goal.returns-in_err-product-clause-wide
returns-in_err-product-clause-wide c =
    let p = err_from_is_err_and c.from_residual.result c.from_residual.ensures.1 in
    rw p.1 (subst (IsWideRowTest c.args.entrant.now.keyed.now c.args.demand c.args.x.now.role) (sym p.2) c.in_err-product.ensures.wide)

pub tie_first-requires-clause-equal : goal.tie_first-requires-clause-equal
tie_first-requires-clause-equal c =
    let b = c.args.entrant.now.keyed.now in
    let best = c.args.best.now in
    let row = c.index-items-best.result in
    let is = rw c.items.ensures at c.index-items-best.is in
    let at : slice_get b.rows best.role ≡ Some row = slice_get-get_or b.rows best.role row c.requires.best.0 ∙ ap Some (sym is) in
    let width : length row.nums ≡ length b.rows = subst (λ o. length (nums_of o) ≡ length b.rows) at (c.requires.entrant.shaped.rectangle best.role c.requires.best.0) in
    (ap length c.nums.ensures ∙ c.in_ok-product.ensures.room.spare) ∙ sym (ap length c.nums-2.ensures ∙ width)

pub tie_first-requires-clause-row : goal.tie_first-requires-clause-row
tie_first-requires-clause-row c = λ k. subst (λ xs. IsNarrow (num xs k)) (sym c.nums.ensures) (c.positive_step.new.room.spare.narrow k)

pub tie_first-requires-clause-other : goal.tie_first-requires-clause-other
tie_first-requires-clause-other c = λ k. subst (λ xs. IsNarrow (num xs k)) (sym c.nums-2.ensures) (c.index-items-best.result.narrow k)

pub tie_first-requires-clause-p : goal.tie_first-requires-clause-p
tie_first-requires-clause-p c =
    let p = c.in_ok-product.product in
    let back : to_z w128 (of_z w128 p) ≡ p = omega (arith, ints, c.positive_step.type_inv) in
    subst (λ z. pos 0 <ℤ z) (sym back) c.in_ok-product.ensures.positive

pub tie_first-requires-clause-apart : goal.tie_first-requires-clause-apart
tie_first-requires-clause-apart c = λ same. omega (arith, same, c.requires.best.0, ap length c.nums.ensures, c.in_ok-product.ensures.room.spare)
