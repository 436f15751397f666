use Rattle.std.proofs.Common.{◌≡◌, pos}
use Rattle.length_master.specs.inner.Tests.{filled_below}
use Rattle.length_master.proofs.tested_basis.filled_at.Given as goal

-- the sum so far
abbrev pub invariant-loop-j : goal.invariant-loop-j
invariant-loop-j l = pos l.sum ≡ filled_below l.pairs l.cuts l.rows l.values l.e l.j
