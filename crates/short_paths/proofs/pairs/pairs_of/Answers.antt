use Rattle.std.proofs.Common.{arith}
use Rattle.short_paths.proofs.PairNumbers.{pairs_more}
use Rattle.short_paths.proofs.pairs.pairs_of.Goals as goal

pub loop-high-preserved : goal.loop-high-preserved
loop-high-preserved c =
    (omega arith, pairs_more _ _ c.requires.short _ _ _ c.loop-high.invariant.1 c.in_ok-add_row.ensures.row)
