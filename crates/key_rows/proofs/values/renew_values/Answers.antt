use Rattle.std.proofs.Common.{◌≡◌, ◌≢◌, ◌<◌, ◌^◌, ◌∙◌, ap, length, pos, refl, slice_set, subst, sym, unsigned_abs, arith, ⊎_elim, ◌≤ℤ◌, get_or-set_same, get_or-set_other}
use Rattle.net_core.proofs.Library.{cases_eq}
use Rattle.checked_fraction.specs.Terms.{num}
use Rattle.simplex_law.specs.Terms.{dot}
use Rattle.simplex_core.{specs.Terms.nums_at, proofs.RowsRead.numbers_at}
use Rattle.key_rows.specs.KeyRows.{amounts}
use Rattle.key_rows.proofs.values.renew_values.Goals as goal

pub next_value-requires-clause-equal : goal.next_value-requires-clause-equal
next_value-requires-clause-equal c =
    let rows = c.args.rows.now in
    let rest = c.args.rest.now in
    let i = c.loop-i.i in
    let row = c.index-rows-i.result in
    let here = numbers_at rows i row row.nums c.loop-i-test.true c.index-rows-i.is refl in
    ap length here ∙ c.requires.rectangle i c.loop-i-test.true

pub next_value-requires-clause-high : goal.next_value-requires-clause-high
next_value-requires-clause-high c =
    let rows = c.args.rows.now in
    let rest = c.args.rest.now in
    let i = c.loop-i.i in
    let row = c.index-rows-i.result in
    let here = numbers_at rows i row row.nums c.loop-i-test.true c.index-rows-i.is refl in
    subst (λ xs. pos 0 ≤ℤ dot (length rest) (num xs) (num rest)) (sym here) (c.requires.high i c.loop-i-test.true)

pub next_value-requires-clause-low : goal.next_value-requires-clause-low
next_value-requires-clause-low c =
    let rows = c.args.rows.now in
    let rest = c.args.rest.now in
    let i = c.loop-i.i in
    let row = c.index-rows-i.result in
    let here = numbers_at rows i row row.nums c.loop-i-test.true c.index-rows-i.is refl in
    subst (λ xs. unsigned_abs (dot (length rest) (num xs) (num rest)) < 2 ^ 124) (sym here) (c.requires.low i c.loop-i-test.true)

pub next_value-requires-clause-kept : goal.next_value-requires-clause-kept
next_value-requires-clause-kept c = λ none.
    let rows = c.args.rows.now in
    let rest = c.args.rest.now in
    let i = c.loop-i.i in
    let row = c.index-rows-i.result in
    let here = numbers_at rows i row row.nums c.loop-i-test.true c.index-rows-i.is refl in
    c.loop-i.invariant.others i (omega arith) ∙ (c.requires.kept i c.loop-i-test.true none ∙ ap (λ xs. dot (length rest) (num xs) (num rest)) (sym here))

pub loop-i-preserved : goal.loop-i-preserved
loop-i-preserved c =
    let rows = c.args.rows.now in
    let rest = c.args.rest.now in
    let i = c.loop-i.i in
    let row = c.index-rows-i.result in
    let here = numbers_at rows i row row.nums c.loop-i-test.true c.index-rows-i.is refl in
    let values = c.loop-i.values in
    let v = c.next_value.result in
    let inside : i < length values = omega (arith, c.loop-i-test.true, c.loop-i.auto.values, c.requires.count) in
    record {
      done = λ j l. ⊎_elim
          (λ e. subst (λ k. amounts (slice_set values i v) k ≡ dot (length rest) (nums_at rows k) (num rest)) (sym e)
          (ap (λ x. pos x) (get_or-set_same values i v 0 inside) ∙ (c.next_value.ensures ∙ ap (λ xs. dot (length rest) (num xs) (num rest)) here)))
          (λ ne. ap (λ x. pos x) (get_or-set_other values i j v 0 ne) ∙ c.loop-i.invariant.done j (omega (arith, l, ne)))
          (cases_eq j i);
      others = λ j l. let ne : j ≢ i = omega (arith, l) in ap (λ x. pos x) (get_or-set_other values i j v 0 ne) ∙ c.loop-i.invariant.others j (omega (arith, l));
    }
