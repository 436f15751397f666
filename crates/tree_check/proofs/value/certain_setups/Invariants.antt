use Rattle.std.proofs.Common.{◌≡◌, ◌*◌, ◌^◌, ◌≤◌}
use Rattle.plan_terms.specs.Terms.{sum_below}
use Rattle.tree_check.specs.BoxValues.{certain_setup}
use Rattle.tree_check.proofs.value.certain_setups.Given as goal

-- the setups so far
abbrev pub invariant-loop-e : goal.invariant-loop-e
invariant-loop-e l = (l.sum ≡ sum_below l.e (certain_setup l.links l.boxed)) × (l.sum ≤ l.e * 2 ^ 40)
