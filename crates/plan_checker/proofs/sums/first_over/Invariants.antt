use Rattle.std.proofs.Common.{ℕ, ◌*◌, ◌<◌}
use Rattle.plan_checker.{specs.Places.HoldsAt, specs.inner.Mixed.AreMixed}
use Rattle.plan_checker.proofs.sums.first_over.Given as goal

-- the loads so far are within the numbers
abbrev pub invariant-loop-e : goal.invariant-loop-e
invariant-loop-e l = (den : ℕ) (n : ℕ → ℕ) → AreMixed den n l.loads → (j : ℕ) → j < l.e → HoldsAt l.nums j (λ num. num * den < n j) → ⊥
