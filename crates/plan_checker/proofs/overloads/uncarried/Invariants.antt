use Rattle.std.proofs.Common.{ℕ, ◌<◌}
use Rattle.plan_terms.specs.Terms.{case_of}
use Rattle.plan_checker.specs.Carried.{IsUncarried}
use Rattle.plan_checker.proofs.overloads.uncarried.Given as goal

-- the demands are carried in the states so far
abbrev pub invariant-loop-s : goal.invariant-loop-s
invariant-loop-s l = (t j : ℕ) → t < l.s → IsUncarried (case_of l.instance) l.scale l.routings t j → ⊥
