use Rattle.std.proofs.Common.{◌≡◌, length}
use Rattle.tree_boxes.proofs.whole.least_of_link.Given as goal

-- a number for each module so far
abbrev pub invariant-loop-m : goal.invariant-loop-m
invariant-loop-m l = length l.numbers ≡ l.m
