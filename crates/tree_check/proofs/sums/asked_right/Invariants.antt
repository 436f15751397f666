use Rattle.std.proofs.Common.{◌≡◌, ◌-◌, ◌^◌, min, take}
use Rattle.line_check.specs.Testing.{weighed}
use Rattle.tree_check.specs.BoxValues.{asked_right}
use Rattle.tree_check.proofs.sums.asked_right.Given as goal

-- the sum over the lines so far
abbrev pub invariant-loop-m : goal.invariant-loop-m
invariant-loop-m l = l.sum ≡ min (asked_right (weighed l.tested (take l.m-index l.lines))) (2 ^ 128 - 1)
