use Rattle.std.proofs.Common.{◌≢◌, ℕ, ◌*◌, ◌<◌}
use Rattle.plan_checker.{specs.Places.HoldsAt, specs.inner.Mixed.AreMixed}
use Rattle.plan_checker.proofs.sums.first_other.Given as goal

-- the sums so far are the needs
abbrev pub invariant-loop-k : goal.invariant-loop-k
invariant-loop-k l = (den : ℕ) (n : ℕ → ℕ) → AreMixed den n l.sums → (j : ℕ) → j < l.k → HoldsAt l.demands j (λ d. n j ≢ d.need * l.scale * den) → ⊥
