use Rattle.std.proofs.Common.{◌≡◌, map, take}
use Rattle.plan_report.specs.Terms.{known_of}
use Rattle.view_text.specs.StateCells.{state_cells}
use Rattle.view_text.proofs.states.state_table.Given as goal

-- the rows so far
abbrev pub invariant-loop-row : goal.invariant-loop-row
invariant-loop-row l = l.all ≡ map (state_cells (known_of l.net l.states)) (take l.row-index l.rows)
