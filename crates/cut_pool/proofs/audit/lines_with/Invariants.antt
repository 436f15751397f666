use Rattle.std.proofs.Common.{◌≡◌, map, take}
use Rattle.cut_pool.specs.Pools.{line_of_pooled}
use Rattle.cut_pool.proofs.audit.lines_with.Given as goal

abbrev pub invariant-loop-k : goal.invariant-loop-k
invariant-loop-k l = l.lines ≡ map line_of_pooled (take l.k l.pool)
