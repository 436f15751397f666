use Rattle.std.proofs.Common.{length, get_or, refl}
use Rattle.net_core.proofs.Library.{slice_get-get_or}
use Rattle.checked_fraction.specs.Terms.{num}
use Rattle.simplex_core.proofs.Pivots.{combines_at, too_wide_at}
use Rattle.simplex_core.proofs.pivot.combine_at.Goals as goal

pub returns-in-Ok-clause-combined : goal.returns-in-Ok-clause-combined
returns-in-Ok-clause-combined c =
    let rows = c.args.rows.now in
    let row = get_or rows c.args.i c.index-rows-i.result in
    combines_at (length c.args.pivot.now.nums) rows row c.combine_row.new.row c.args.products.now (num c.args.pivot.now.nums) (num c.args.products.now c.args.r) c.args.r c.args.i
    c.requires.inside c.if-i-r.false (slice_get-get_or rows c.args.i c.index-rows-i.result c.requires.inside) c.requires.rectangle c.in-Ok.ensures.length c.in-Ok.ensures.reduced

pub returns-in-Err-clause-wide : goal.returns-in-Err-clause-wide
returns-in-Err-clause-wide c =
    let rows = c.args.rows.now in
    let row = get_or rows c.args.i c.index-rows-i.result in (
      refl,
      c.if-i-r.false,
      too_wide_at (length c.args.pivot.now.nums) rows row c.args.products.now (num c.args.pivot.now.nums) (num c.args.products.now c.args.r) c.args.i c.in-Err.field-0
          c.requires.inside (slice_get-get_or rows c.args.i c.index-rows-i.result c.requires.inside) c.requires.rectangle c.in-Err.ensures.wide,
    )

pub combine_row-requires-clause-positive : goal.combine_row-requires-clause-positive
combine_row-requires-clause-positive c = c.requires.pivot.positive

pub combine_row-requires-clause-narrow : goal.combine_row-requires-clause-narrow
combine_row-requires-clause-narrow c = c.requires.pivot.narrow

pub combine_row-requires-clause-over : goal.combine_row-requires-clause-over
combine_row-requires-clause-over c = c.requires.pivot.over c.args.i c.requires.inside
