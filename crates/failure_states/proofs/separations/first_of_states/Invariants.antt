use Rattle.std.proofs.Common.{◌≡◌, ℕ, ◌<◌, length}
use Rattle.plan_terms.specs.Terms.{case_of, Separates}
use Rattle.failure_states.proofs.separations.first_of_states.Given as goal

-- no state so far separates a demand
abbrev pub invariant-loop-s : goal.invariant-loop-s
invariant-loop-s l = (length l.labels ≡ length l.instance.net.now.nodes) × ((t k : ℕ) → t < l.s → Separates (case_of l.instance) t k → ⊥)
