use Rattle.std.proofs.Common.{◌≡◌, ◌+◌, ◌≤◌, ◌*◌, ◌^◌, unsigned_abs}
use Rattle.checked_fraction.specs.Terms.{num, total}
use Rattle.key_rows.specs.KeyRows.{left_over_rows}
use Rattle.key_rows.proofs.weights.step_of.Given as goal

-- what the rows so far leave
abbrev pub invariant-loop-i : goal.invariant-loop-i
invariant-loop-i l = record {
  sum : total l.sum ≡ left_over_rows l.owners l.weights l.demand l.all l.own (num l.products) l.i;
  high : unsigned_abs l.sum.high ≤ 2 ^ 62 + l.i * 2 ^ 77;
  low : l.sum.low ≤ 2 ^ 62 + l.i * 2 ^ 62;
}
