use Rattle.std.proofs.Common.{◌≡◌, ◌++◌, take}
use Rattle.view_csv.specs.CommaSeparated.{csv_text}
use Rattle.view_csv.proofs.rows.put_csv.Given as goal

-- the lines so far
abbrev pub invariant-loop-row : goal.invariant-loop-row
invariant-loop-row l = l.text ≡ l.fn.text ++ csv_text (take l.row-index l.rows)
