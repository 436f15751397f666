use Rattle.std.proofs.Common.{◌≡◌, ◌*◌, ◌^◌, ◌≤◌, take}
use Rattle.plan_terms.specs.Terms.{total_need}
use Rattle.view_text.proofs.heading.total_need.Given as goal

-- the needs so far
abbrev pub invariant-loop-i : goal.invariant-loop-i
invariant-loop-i l = (l.total ≡ total_need (take l.i l.demands)) × (l.total ≤ l.i * 2 ^ 64)
