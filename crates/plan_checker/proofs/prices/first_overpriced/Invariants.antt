use Rattle.std.proofs.Common.{ℕ, ◌*◌, ◌<◌}
use Rattle.plan_checker.specs.Places.{HoldsAt}
use Rattle.plan_checker.proofs.prices.first_overpriced.Given as goal

-- the prices of the modules so far are within their costs
abbrev pub invariant-loop-m : goal.invariant-loop-m
invariant-loop-m l = (j : ℕ) → j < l.m → HoldsAt l.modules j (λ x. l.den * x.cost < l.price * x.capacity) → ⊥
