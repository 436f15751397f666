use Rattle.std.proofs.Common.{◌≡◌, ℕ, ◌<◌}
use Rattle.plan_report.specs.Terms.{state_name}
use Rattle.view_state.proofs.names.named_state.Given as goal

-- no state so far has the name
abbrev pub invariant-loop-state : goal.invariant-loop-state
invariant-loop-state l = (t : ℕ) → t < l.state → state_name l.states.listed t ≡ l.name → ⊥
