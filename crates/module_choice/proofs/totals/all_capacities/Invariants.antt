use Rattle.std.proofs.Common.{◌≡◌, take}
use Rattle.plan_terms.specs.Terms.{capacities}
use Rattle.module_choice.proofs.totals.all_capacities.Given as goal

-- the capacities so far
abbrev pub invariant-loop-i : goal.invariant-loop-i
invariant-loop-i l = l.nums ≡ capacities (take l.i l.links) (take l.i l.counts)
