use Rattle.std.proofs.Common.{length, refl, ◌≡◌, ◌∙◌, ap, Some, slice_get, slice_set, length-set, subst, sym, arith}
use Rattle.net_core.proofs.Library.{slice_get-get_or, err_from_is_err_and}
use Rattle.checked_fraction.specs.Terms.{num}
use Rattle.simplex_core.{specs.Turned.{AreTurned, HavePivot, IsWideRow}, proofs.Pivots.{lent_rectangle, turned_rows, spare_size, wide_rows}}
use Rattle.simplex_core.proofs.pivot.turn_rows.Goals as goal

pub combine_rows-requires-clause-rectangle : goal.combine_rows-requires-clause-rectangle
combine_rows-requires-clause-rectangle c =
    let rows = c.args.rows.now in
    let at : slice_get rows c.args.r ≡ Some c.swap.new.y = slice_get-get_or rows c.args.r c.index-rows-r.result c.requires.pivot.inside ∙ ap Some (sym c.swap.ensures.y_after) in
    lent_rectangle rows c.swap.new.y c.swap.new.x c.args.r c.requires.pivot.inside at c.requires.rectangle (ap (λ x. length x.nums) c.swap.ensures.x_after ∙ c.requires.spare)

pub combine_rows-requires-clause-pivot : goal.combine_rows-requires-clause-pivot
combine_rows-requires-clause-pivot c = subst (λ n. HavePivot c.args.products.now n c.args.r) (sym (length-set c.args.rows.now c.args.r c.swap.new.x)) c.requires.pivot

pub returns-clause-turned : goal.returns-clause-turned
returns-clause-turned c =
    let rows = c.args.rows.now in
    let at : slice_get rows c.args.r ≡ Some c.swap.new.y = slice_get-get_or rows c.args.r c.index-rows-r.result c.requires.pivot.inside ∙ ap Some (sym c.swap.ensures.y_after) in
    subst (λ x. AreTurned (length rows) rows (slice_set c.combine_rows.new.rows c.args.r x) c.args.products.now c.args.r) (sym c.swap-2.ensures.x_after)
    (turned_rows (length rows) c.args.r rows c.combine_rows.new.rows c.swap.new.y c.swap.new.x c.divide_row.new.row c.args.products.now refl c.requires.pivot.inside c.requires.rectangle at
    c.in_ok-combine_rows.ensures.combined c.divide_row.ensures.length c.divide_row.ensures.reduced)

pub returns-clause-spare : goal.returns-clause-spare
returns-clause-spare c =
    let rows = c.args.rows.now in
    let mid = c.combine_rows.new.rows in
    let a = c.in_ok-combine_rows.ensures.combined in
    let at : slice_get mid c.args.r ≡ Some c.swap-2.new.y =
    slice_get-get_or mid c.args.r c.index-rows-r-2.result (omega (arith, a.count, length-set rows c.args.r c.swap.new.x, c.requires.pivot.inside)) ∙ ap Some (sym c.swap-2.ensures.y_after) in
    spare_size (length rows) c.args.r rows mid c.swap-2.new.y c.swap.new.x c.args.products.now (length c.swap.new.y.nums) (num c.swap.new.y.nums) (num c.args.products.now c.args.r)
    refl c.requires.pivot.inside (ap (λ x. length x.nums) c.swap.ensures.x_after ∙ c.requires.spare) at a

pub returns-in_err-combine_rows-clause-wide : goal.returns-in_err-combine_rows-clause-wide
returns-in_err-combine_rows-clause-wide c =
    let rows = c.args.rows.now in
    let at : slice_get rows c.args.r ≡ Some c.swap.new.y = slice_get-get_or rows c.args.r c.index-rows-r.result c.requires.pivot.inside ∙ ap Some (sym c.swap.ensures.y_after) in
    let e = c.in_err-combine_rows.ensures.wide in
    let p = err_from_is_err_and c.from_residual.result c.from_residual.ensures.1 in
    rw p.1 (subst (IsWideRow (length rows) rows c.args.products.now c.args.r) (sym p.2)
    (wide_rows (length rows) c.args.r c.in_err-combine_rows.field-0.0 rows c.swap.new.y c.swap.new.x c.args.products.now refl c.requires.pivot.inside c.requires.rectangle at e.0 e.1 e.2))

pub bounds-rows-r-2 : goal.bounds-rows-r-2
bounds-rows-r-2 c = omega (arith, c.in_ok-combine_rows.ensures.combined.count, length-set c.args.rows.now c.args.r c.swap.new.x, c.requires.pivot.inside)
