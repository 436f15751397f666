use Rattle.std.proofs.Common.{◌≡◌, ◌-◌, ◌^◌, min, take}
use Rattle.line_check.specs.Testing.{weighed}
use Rattle.tree_check.specs.BoxValues.{given_free}
use Rattle.tree_check.proofs.sums.given_free.Given as goal

-- the sum over the lines so far
abbrev pub invariant-loop-m : goal.invariant-loop-m
invariant-loop-m l = l.sum ≡ min (given_free (weighed l.tested (take l.m-index l.lines))) (2 ^ 128 - 1)
