use Rattle.std.proofs.Common.{◌≤◌, All, length, take}
use Rattle.planner.proofs.ranges.are_named.Given as goal

-- the names so far
abbrev pub invariant-loop-d : goal.invariant-loop-d
invariant-loop-d l = All (λ d. length d.name ≤ 255) (take l.d-index l.demands)
