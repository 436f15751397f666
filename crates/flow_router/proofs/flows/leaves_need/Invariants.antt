use Rattle.std.proofs.Common.{ℕ, ◌≡◌, ◌<◌, Some, get_or, slice_get}
use Rattle.plan_terms.specs.Terms.{DemandSlack}
use Rattle.flow_router.proofs.flows.leaves_need.Given as goal

-- the columns so far leave nothing
abbrev pub invariant-loop-j : goal.invariant-loop-j
invariant-loop-j l = (j k : ℕ) → j < l.j → slice_get l.basis j ≡ Some (DemandSlack k) → get_or l.values j 0 ≡ 0
