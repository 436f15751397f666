use Rattle.std.proofs.Common.{◌≤◌, All, length}
use Rattle.table_maker.specs.Made.{IsTableFor}
use Rattle.table_maker.proofs.tables.table_lines.Given as goal

-- the lines so far are missed, and not too many
abbrev pub invariant-loop-spot : goal.invariant-loop-spot
invariant-loop-spot l = record {
  missed : All (IsTableFor l.task) l.taken.lines;
  few : length l.taken.lines ≤ l.most;
}
