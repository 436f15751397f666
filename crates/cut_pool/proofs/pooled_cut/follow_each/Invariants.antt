use Rattle.std.proofs.Common.{◌≡◌, ◌++◌, drop, map, take}
use Rattle.cut_pool.specs.inner.Pooling.{followed}
use Rattle.cut_pool.proofs.pooled_cut.follow_each.Given as goal

-- the right sides so far have followed
abbrev pub invariant-loop-k : goal.invariant-loop-k
invariant-loop-k l = l.pool ≡ map (followed l.change) (take l.k l.fn.pool) ++ drop l.k l.fn.pool
