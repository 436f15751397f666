use Rattle.std.proofs.Common.{◌≤◌, All, length}
use Rattle.line_maker.specs.Made.{IsCoarseLine}
use Rattle.line_maker.proofs.coarse.coarse_lines.Given as goal

-- the coarse lines so far
abbrev pub invariant-loop-i : goal.invariant-loop-i
invariant-loop-i l = All (IsCoarseLine l.links l.tested) l.lines × (length l.lines ≤ l.i)
