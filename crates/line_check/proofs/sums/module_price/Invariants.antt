use Rattle.std.proofs.Common.{◌≡◌, ◌-◌, ◌^◌, min, take}
use Rattle.line_check.{specs.Inequalities.module_price, specs.Testing.weighed}
use Rattle.line_check.proofs.sums.module_price.Given as goal

-- the sum over the lines so far
abbrev pub invariant-loop-x : goal.invariant-loop-x
invariant-loop-x l = l.sum ≡ min (module_price (weighed l.tested (take l.x-index l.lines)) l.e l.m) (2 ^ 128 - 1)
