use Rattle.std.proofs.Common.{◌≡◌, ◌*◌, ◌^◌, ◌≤◌, take}
use Rattle.plan_terms.specs.Terms.{total_cost}
use Rattle.module_choice.proofs.totals.total_cost.Given as goal

-- the cost so far
abbrev pub invariant-loop-i : goal.invariant-loop-i
invariant-loop-i l = (l.cost ≡ total_cost (take l.i l.links) (take l.i l.counts)) × (l.cost ≤ l.i * 2 ^ 109)
