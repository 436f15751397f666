use Rattle.std.proofs.Common.{◌≡◌, ◌≤◌, ◌^◌, unsigned_abs, length, ap, sym, subst, refl, inr, ◌∙◌, arith}
use Rattle.checked_fraction.specs.Terms.{num, IsReduced, IsTooWide}
use Rattle.key_rows.{specs.KeyRows.less_rows, proofs.Rows.{reduced_of, wide_of, done_of, failed_of}}
use Rattle.key_rows.proofs.key_row.key_row.Goals as goal

pub lower-requires-clause-equal : goal.lower-requires-clause-equal
lower-requires-clause-equal c =
    let size : length c.items.result.now ≡ length c.args.rows.now = ap length c.items.ensures ∙ (c.write_raw_list.ensures.room ∙ c.requires.room) in
    c.requires.row ∙ sym size

pub lower-requires-clause-bound : goal.lower-requires-clause-bound
lower-requires-clause-bound c = λ k l.
    let size : length c.items.result.now ≡ length c.args.rows.now = ap length c.items.ensures ∙ (c.write_raw_list.ensures.room ∙ c.requires.room) in
    let are = c.if-not-write_raw_list.ensures.all refl in
    subst (λ xs. unsigned_abs (num xs k) ≤ 2 ^ 124) (sym c.items.ensures) (are.bound k (omega (arith, l, size)))

pub returns-clause-done : goal.returns-clause-done
returns-clause-done c = λ yes.
    let n = length c.args.rows.now in
    let raw = c.write_raw_list.new.raw in
    let row = c.lower.new.row in
    let size : length c.items.result.now ≡ n = ap length c.items.ensures ∙ (c.write_raw_list.ensures.room ∙ c.requires.room) in
    let are = c.if-not-write_raw_list.ensures.all refl in
    let low = done_of c.lower.result c.is_ok.result c.is_ok.ensures.value c.lower.ensures.reduced yes in
    reduced_of (num raw) (less_rows c.args.rows.now c.args.owners.now c.args.weights.now c.args.demand n) n c.args.all.now row.den (num row.nums) are.each
    (subst (λ xs. IsReduced n (num xs) c.args.all.now (num row.nums) row.den) c.items.ensures
    (subst (λ m. IsReduced m (num c.items.result.now) c.args.all.now (num row.nums) row.den) size low))

pub returns-clause-wide : goal.returns-clause-wide
returns-clause-wide c = λ no.
    let n = length c.args.rows.now in
    let raw = c.write_raw_list.new.raw in
    let size : length c.items.result.now ≡ n = ap length c.items.ensures ∙ (c.write_raw_list.ensures.room ∙ c.requires.room) in
    let are = c.if-not-write_raw_list.ensures.all refl in
    let found = failed_of c.lower.result c.is_ok.result c.is_ok.ensures.value c.lower.ensures.wide no in
    inr (
      found.0,
      wide_of (num raw) (less_rows c.args.rows.now c.args.owners.now c.args.weights.now c.args.demand n) n c.args.all.now found.0 are.each
          (subst (λ xs. IsTooWide n (num xs) c.args.all.now found.0) c.items.ensures (subst (λ m. IsTooWide m (num c.items.result.now) c.args.all.now found.0) size found.1)),
    )
