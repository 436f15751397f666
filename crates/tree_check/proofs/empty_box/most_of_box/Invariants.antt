use Rattle.std.proofs.Common.{◌≡◌, ℕ, ◌<◌, ◌-◌, ◌^◌, min}
use Rattle.plan_terms.specs.Terms.{sum_below}
use Rattle.line_check.specs.Inequalities.{module_number}
use Rattle.tree_check.specs.inner.Emptying.{HasMost, most_at}
use Rattle.tree_check.proofs.empty_box.most_of_box.Given as goal

-- the links so far
abbrev pub invariant-loop-e : goal.invariant-loop-e
invariant-loop-e l = ((e m : ℕ) → e < l.e → m < module_number l.links e → HasMost l.line l.boxed e m) × (l.sum ≡ min (sum_below l.e (λ e. sum_below (module_number l.links e) (most_at l.line l.boxed e))) (2 ^ 128 - 1))
