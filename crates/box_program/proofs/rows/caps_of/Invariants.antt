use Rattle.std.proofs.Common.{◌<◌, ◌≤◌, All, length}
use Rattle.box_program.proofs.rows.caps_of.Given as goal

-- the greatest counts of the modules so far
abbrev pub invariant-loop-row : goal.invariant-loop-row
invariant-loop-row l = (length l.caps ≤ l.row) × All (λ c. c.row < length l.modules) l.caps
