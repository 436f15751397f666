use Rattle.std.proofs.Common.{sym, ◌∙◌}
use Rattle.simplex_core.proofs.RowsRead.{numbers_at, compares_at, width_at}
use Rattle.simplex_core.proofs.ratio_test.compare_rows.Goals as goal

pub returns : goal.returns
returns c =
    let rows = c.args.rows.now in
    let first = c.args.first.now in
    let second = c.args.second.now in
    let here = numbers_at rows first.row c.index-rows-first.result c.nums.result.now c.requires.inside_first c.index-rows-first.is c.nums.ensures in
    let there = numbers_at rows second.row c.index-rows-second.result c.nums-2.result.now c.requires.inside_second c.index-rows-second.is c.nums-2.ensures in
    compares_at rows first.row second.row c.nums.result.now c.nums-2.result.now first.product second.product c.compare_numbers.result
    (width_at rows first.row c.nums.result.now c.requires.inside_first c.requires.rectangle here) here there c.compare_numbers.ensures

pub compare_numbers-requires-clause-equal : goal.compare_numbers-requires-clause-equal
compare_numbers-requires-clause-equal c =
    let rows = c.args.rows.now in
    let first = c.args.first.now in
    let second = c.args.second.now in
    let here = numbers_at rows first.row c.index-rows-first.result c.nums.result.now c.requires.inside_first c.index-rows-first.is c.nums.ensures in
    let there = numbers_at rows second.row c.index-rows-second.result c.nums-2.result.now c.requires.inside_second c.index-rows-second.is c.nums-2.ensures in
    width_at rows first.row c.nums.result.now c.requires.inside_first c.requires.rectangle here
    ∙ sym (width_at rows second.row c.nums-2.result.now c.requires.inside_second c.requires.rectangle there)
