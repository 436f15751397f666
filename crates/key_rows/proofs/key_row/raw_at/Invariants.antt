use Rattle.std.proofs.Common.{◌≡◌, ◌≤◌, ◌*◌, ◌^◌, unsigned_abs}
use Rattle.checked_fraction.specs.Terms.{total}
use Rattle.key_rows.specs.KeyRows.{less_rows}
use Rattle.key_rows.proofs.key_row.raw_at.Given as goal

-- the sum of the rows so far
abbrev pub invariant-loop-i : goal.invariant-loop-i
invariant-loop-i l = record {
  sum : total l.sum ≡ less_rows l.rows l.owners l.weights l.demand l.i l.k;
  high : unsigned_abs l.sum.high ≤ l.i * 2 ^ 62;
  low : l.sum.low ≤ l.i * 2 ^ 62;
}
