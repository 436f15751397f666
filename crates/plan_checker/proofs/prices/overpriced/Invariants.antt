use Rattle.std.proofs.Common.{ℕ, ◌<◌}
use Rattle.plan_checker.{specs.Certified.IsOverpriced, specs.inner.Lines.certified}
use Rattle.plan_checker.proofs.prices.overpriced.Given as goal

-- the prices of the modules of the links so far are within their costs
abbrev pub invariant-loop-e : goal.invariant-loop-e
invariant-loop-e l = (t j : ℕ) → t < l.e → IsOverpriced l.links l.den (certified l.lines) t j → ⊥
