use Rattle.std.proofs.Common.{ℕ, ◌<◌}
use Rattle.plan_checker.specs.Carried.{IsOverloaded}
use Rattle.plan_checker.proofs.overloads.overloaded.Given as goal

-- the loads are within the capacities in the states so far
abbrev pub invariant-loop-s : goal.invariant-loop-s
invariant-loop-s l = (t j : ℕ) → t < l.s → IsOverloaded l.nums l.routings t j → ⊥
