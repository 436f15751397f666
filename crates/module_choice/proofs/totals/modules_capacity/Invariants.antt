use Rattle.std.proofs.Common.{◌≡◌, ◌*◌, ◌^◌, ◌≤◌, take}
use Rattle.plan_terms.specs.Terms.{modules_capacity}
use Rattle.module_choice.proofs.totals.modules_capacity.Given as goal

-- the capacity so far
abbrev pub invariant-loop-i : goal.invariant-loop-i
invariant-loop-i l = (l.capacity ≡ modules_capacity (take l.i l.modules) (take l.i l.counts)) × (l.capacity ≤ l.i * 2 ^ 104)
