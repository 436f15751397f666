use Rattle.std.proofs.Common.{ℕ, ◌≤◌, All}
use Rattle.table_maker.proofs.kinds.weights_of.Given as goal

-- no weight so far is above the greatest
abbrev pub invariant-loop-cost : goal.invariant-loop-cost
invariant-loop-cost l = All (λ (weight : ℕ). weight ≤ l.most) l.weights
