use Rattle.std.proofs.Common.{◌≡◌, ◌<◌, ◌≤◌, ◌^◌, All, length}
use Rattle.line_check.specs.inner.Rows.{IsNextFront}
use Rattle.line_check.proofs.table.next_row.Given as goal

-- the entries so far
abbrev pub invariant-loop-r : goal.invariant-loop-r
invariant-loop-r l = record {
  some : 0 < l.r;
  count : length l.next ≡ l.r;
  front : IsNextFront l.row l.size l.weight l.next;
  small : All (λ n. n ≤ 2 ^ 45) l.next;
}
