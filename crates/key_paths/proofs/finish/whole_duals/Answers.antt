use Rattle.key_paths.proofs.Ending.{joined, lowest_more, narrow_more}
use Rattle.key_paths.proofs.finish.whole_duals.Goals as goal

pub row_of-requires-clause-narrow : goal.row_of-requires-clause-narrow
row_of-requires-clause-narrow c =
    let b = c.args.keyed.now in
    rw (joined c.in_ok-append-2.ensures.ok c.in_ok-append.ensures.ok c.new-nums.ensures c.nums.ensures c.items.ensures) (narrow_more b.prices.nums b.duals b.prices.narrow c.requires.narrow_duals)

pub row_of-requires-clause-lowest : goal.row_of-requires-clause-lowest
row_of-requires-clause-lowest c =
    let b = c.args.keyed.now in
    rw (joined c.in_ok-append-2.ensures.ok c.in_ok-append.ensures.ok c.new-nums.ensures c.nums.ensures c.items.ensures) (lowest_more b.prices.nums b.duals b.prices.den b.prices.lowest)
