use Rattle.std.proofs.Common.{◌≡◌, ℕ, ◌<◌, ◌-◌, ◌^◌, min}
use Rattle.plan_terms.specs.Terms.{sum_below}
use Rattle.tree_check.specs.inner.Emptying.{HasMost, most_at}
use Rattle.tree_check.proofs.empty_box.most_of_link.Given as goal

-- the modules so far
abbrev pub invariant-loop-m : goal.invariant-loop-m
invariant-loop-m l = ((m : ℕ) → m < l.m → HasMost l.line l.boxed l.e m) × (l.sum ≡ min (sum_below l.m (most_at l.line l.boxed l.e)) (2 ^ 128 - 1))
