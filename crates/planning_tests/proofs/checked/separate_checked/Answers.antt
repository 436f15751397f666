use Rattle.std.proofs.Common.{ℕ, inr}
use Rattle.plan_terms.specs.Terms.{Case, IsFirstSeparation, IsSurvivable}
use Rattle.planning_tests.proofs.checked.separate_checked.Goals as goal

pub separate-requires-clause-survivable : goal.separate-requires-clause-survivable
separate-requires-clause-survivable g c = rw c.in-None.is at c.in_ok-first_separated.ensures

-- a network with a separation isn't survivable
separates : (p : Case) (s k : ℕ) → IsFirstSeparation p s k → IsSurvivable p → ⊥
separates p s k first survivable = survivable s k first.state first.separates

pub returns-in-Some-clause-refused : goal.returns-in-Some-clause-refused
returns-in-Some-clause-refused g c none = inr (inr (separates _ _ _ (rw c.in-Some.is at c.in_ok-first_separated.ensures)))
