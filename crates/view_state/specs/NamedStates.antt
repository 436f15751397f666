-- states by their names
use Rattle.std.specs.Prelude.{◌≡◌, ◌≢◌, ℕ, ◌≤◌, ◌<◌, List, length}
use Rattle.plan_report.specs.Terms.{state_name}
use Rattle.plan_terms.specs.Terms.{Listed}

-- s is the first state of this name
pub record IsNamedState (listed : List Listed) (name : List ℕ) (s : ℕ) : Type 0 where
  pub within : s ≤ length listed
  pub named : state_name listed s ≡ name
  pub first : (t : ℕ) → t < s → state_name listed t ≢ name
