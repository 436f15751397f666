use Rattle.std.proofs.Common.{ℕ, ◌+◌, ◌*◌, ◌<◌, All, take}
use Rattle.module_choice.specs.inner.Routes.{times}
use Rattle.plan_checker.specs.inner.Mixed.{AreMixed, IsMixed}
use Rattle.plan_checker.proofs.sums.add_path.Given as goal

-- the number is added to the links so far
abbrev pub invariant-loop-e : goal.invariant-loop-e
invariant-loop-e l = record {
  each : All (λ m. m.rest < l.den) l.sums;
  sum : (n : ℕ → ℕ) (m : ℕ) → AreMixed l.den n l.fn.sums → IsMixed l.den m l.by → AreMixed l.den (λ e. n e + m * times e (take l.e-index l.path)) l.sums;
}
