use Rattle.std.proofs.Common.{◌≡◌, ◌≤◌, ◌^◌, ap, sym, subst, ◌∙◌, Some, length, slice_get, arith}
use Rattle.net_core.proofs.Library.{slice_get-get_or}
use Rattle.checked_fraction.specs.Terms.{num}
use Rattle.simplex_core.{specs.Tables.nums_of, specs.inner.Values.sizes_of, proofs.Fractions.fraction_push}
use Rattle.simplex_core.proofs.value.fractions_of.Goals as goal

pub loop-i-preserved : goal.loop-i-preserved
loop-i-preserved c =
    let rows = c.args.rows.now in
    let row = c.index-rows-i.result in
    fraction_push rows (num c.args.bounds.now) c.loop-i.fractions c.push.new.self c.loop-i.i (length c.args.bounds.now) row c.in-Some.fraction c.loop-i.invariant.0 c.loop-i.invariant.1
    (slice_get-get_or rows c.loop-i.i row c.loop-i-test.true ∙ ap Some (sym c.index-rows-i.is)) c.requires.rows.count c.in-Some.ensures.some c.in_ok-push.ensures.ok

pub row_fraction-requires-clause-equal : goal.row_fraction-requires-clause-equal
row_fraction-requires-clause-equal c =
    let rows = c.args.rows.now in
    let row = c.index-rows-i.result in
    let at : slice_get rows c.loop-i.i ≡ Some row = slice_get-get_or rows c.loop-i.i row c.loop-i-test.true ∙ ap Some (sym c.index-rows-i.is) in
    subst (λ o. length (nums_of o) ≡ length rows) at (c.requires.rows.rectangle c.loop-i.i c.loop-i-test.true) ∙ sym c.requires.rows.count

pub returns-in_default : goal.returns-in_default
returns-in_default c =
    let rows = c.args.rows.now in
    let bounds = c.args.bounds.now in
    let row = c.index-rows-i.result in
    let at : slice_get rows c.loop-i.i ≡ Some row = slice_get-get_or rows c.loop-i.i row c.loop-i-test.true ∙ ap Some (sym c.index-rows-i.is) in (
      c.loop-i-test.true,
      subst (λ o. 2 ^ 126 ≤ sizes_of (length rows) (num (nums_of o)) (num bounds)) (sym at)
          (subst (λ n. 2 ^ 126 ≤ sizes_of n (num row.nums) (num bounds)) c.requires.rows.count c.in_default.ensures.none),
    )

pub returns : goal.returns
returns c =
    let n : c.loop-i.i ≡ length c.args.rows.now = omega (arith, c.loop-i-test.false, c.loop-i.auto.i-end) in
    record { count = c.loop-i.invariant.0 ∙ n; each = c.loop-i.invariant.1 }
