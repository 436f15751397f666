use Rattle.std.proofs.Common.{◌≡◌, ◌≤◌, ◌^◌, pos}
use Rattle.key_rows.specs.KeyRows.{amounts, left_over_rows}
use Rattle.key_rows.proofs.weights.key_value.Given as goal

-- what the rows so far leave
abbrev pub invariant-loop-i : goal.invariant-loop-i
invariant-loop-i l = record {
  left : pos l.left ≡ left_over_rows l.owners l.weights l.demand l.all l.bound (amounts l.values) l.i;
  low : l.left ≤ 2 ^ 124;
}
