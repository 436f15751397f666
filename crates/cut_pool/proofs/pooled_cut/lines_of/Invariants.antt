use Rattle.std.proofs.Common.{◌≡◌, map, take}
use Rattle.cut_pool.specs.Pools.{line_of_pooled}
use Rattle.cut_pool.proofs.pooled_cut.lines_of.Given as goal

-- the lines so far
abbrev pub invariant-loop-pooled : goal.invariant-loop-pooled
invariant-loop-pooled l = l.lines ≡ map line_of_pooled (take l.pooled-index l.pool)
