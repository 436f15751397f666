use Rattle.std.proofs.Common.{◌≡◌, ◌-◌, ◌^◌, min, take}
use Rattle.line_check.{specs.Inequalities.summed_need, specs.Testing.weighed}
use Rattle.line_check.proofs.sums.summed_need.Given as goal

-- the sum over the lines so far
abbrev pub invariant-loop-x : goal.invariant-loop-x
invariant-loop-x l = l.sum ≡ min (summed_need (weighed l.tested (take l.x-index l.lines))) (2 ^ 128 - 1)
