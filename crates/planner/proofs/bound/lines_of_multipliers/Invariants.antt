use Rattle.std.proofs.Common.{◌≡◌, map, take}
use Rattle.planner.specs.inner.Finishing.{line_at}
use Rattle.planner.proofs.bound.lines_of_multipliers.Given as goal

-- the lines of the multipliers so far
abbrev pub invariant-loop-i : goal.invariant-loop-i
invariant-loop-i l = l.lines ≡ map (line_at l.worked) (take l.i l.multipliers)
