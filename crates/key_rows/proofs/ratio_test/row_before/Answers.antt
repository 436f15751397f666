use Rattle.std.proofs.Common.{length, sym, subst, ◌∙◌, arith}
use Rattle.checked_fraction.specs.Terms.{num, IsNarrow}
use Rattle.simplex_core.proofs.RowsRead.{numbers_at, width_at}
use Rattle.key_rows.proofs.Listing.{tie_at}
use Rattle.key_rows.proofs.ratio_test.row_before.Goals as goal

pub tie_first-requires-clause-equal : goal.tie_first-requires-clause-equal
tie_first-requires-clause-equal c =
    let rows = c.args.rows.now in
    let first = c.args.first.now in
    let second = c.args.second.now in
    let here = numbers_at rows first.role c.index-rows-first.result c.nums.result.now c.requires.inside_first c.index-rows-first.is c.nums.ensures in
    let there = numbers_at rows second.role c.index-rows-second.result c.nums-2.result.now c.requires.inside_second c.index-rows-second.is c.nums-2.ensures in
    width_at rows first.role c.nums.result.now c.requires.inside_first c.requires.rectangle here
    ∙ sym (width_at rows second.role c.nums-2.result.now c.requires.inside_second c.requires.rectangle there)

pub returns-clause-yes : goal.returns-clause-yes
returns-clause-yes c = λ yes.
    let rows = c.args.rows.now in
    let first = c.args.first.now in
    let second = c.args.second.now in
    let here = numbers_at rows first.role c.index-rows-first.result c.nums.result.now c.requires.inside_first c.index-rows-first.is c.nums.ensures in
    let there = numbers_at rows second.role c.index-rows-second.result c.nums-2.result.now c.requires.inside_second c.index-rows-second.is c.nums-2.ensures in
    tie_at rows (length c.nums.result.now) first.role second.role c.nums.result.now c.nums-2.result.now first.product second.product first.role second.role
    (width_at rows first.role c.nums.result.now c.requires.inside_first c.requires.rectangle here) here there (c.tie_first.ensures.yes yes)

pub returns-clause-no : goal.returns-clause-no
returns-clause-no c = λ no.
    let rows = c.args.rows.now in
    let first = c.args.first.now in
    let second = c.args.second.now in
    let here = numbers_at rows first.role c.index-rows-first.result c.nums.result.now c.requires.inside_first c.index-rows-first.is c.nums.ensures in
    let there = numbers_at rows second.role c.index-rows-second.result c.nums-2.result.now c.requires.inside_second c.index-rows-second.is c.nums-2.ensures in
    tie_at rows (length c.nums.result.now) second.role first.role c.nums-2.result.now c.nums.result.now second.product first.product second.role first.role
    (width_at rows first.role c.nums.result.now c.requires.inside_first c.requires.rectangle here) there here (c.tie_first.ensures.no no)

pub tie_first-requires-clause-short : goal.tie_first-requires-clause-short
tie_first-requires-clause-short c =
    let rows = c.args.rows.now in
    let first = c.args.first.now in
    let here = numbers_at rows first.role c.index-rows-first.result c.nums.result.now c.requires.inside_first c.index-rows-first.is c.nums.ensures in
    omega (arith, c.requires.short, width_at rows first.role c.nums.result.now c.requires.inside_first c.requires.rectangle here)

pub tie_first-requires-clause-row : goal.tie_first-requires-clause-row
tie_first-requires-clause-row c = λ k. subst (λ xs. IsNarrow (num xs k)) (sym c.nums.ensures) (c.index-rows-first.result.narrow k)

pub tie_first-requires-clause-other : goal.tie_first-requires-clause-other
tie_first-requires-clause-other c = λ k. subst (λ xs. IsNarrow (num xs k)) (sym c.nums-2.ensures) (c.index-rows-second.result.narrow k)

pub tie_first-requires-clause-apart : goal.tie_first-requires-clause-apart
tie_first-requires-clause-apart c = λ same.
    let rows = c.args.rows.now in
    let first = c.args.first.now in
    let here = numbers_at rows first.role c.index-rows-first.result c.nums.result.now c.requires.inside_first c.index-rows-first.is c.nums.ensures in
    omega (arith, c.requires.inside_first, width_at rows first.role c.nums.result.now c.requires.inside_first c.requires.rectangle here)
