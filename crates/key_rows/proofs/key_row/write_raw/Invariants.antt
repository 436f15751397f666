use Rattle.std.proofs.Common.{length}
use Rattle.key_rows.{specs.KeyRows.less_rows, specs.inner.Written.AreRaw}
use Rattle.key_rows.proofs.key_row.write_raw.Given as goal

-- the numbers so far
abbrev pub invariant-loop-k : goal.invariant-loop-k
invariant-loop-k l = AreRaw (less_rows l.rows l.owners l.weights l.demand (length l.rows)) l.k l.raw
