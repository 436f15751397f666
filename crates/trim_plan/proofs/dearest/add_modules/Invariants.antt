use Rattle.std.proofs.Common.{◌≡◌, ◌++◌, take}
use Rattle.trim_plan.specs.Dearest.{priced_modules}
use Rattle.trim_plan.proofs.dearest.add_modules.Given as goal

-- the modules so far
abbrev pub invariant-loop-module : goal.invariant-loop-module
invariant-loop-module l = l.priced ≡ l.fn.priced ++ priced_modules l.link 0 (take l.«module» l.modules)
