use Rattle.std.proofs.Common.{◌≡◌, ◌+◌, ◌^◌, min, take}
use Rattle.plan_terms.specs.Terms.{modules_capacity}
use Rattle.report_parts.proofs.modules.capacity.Given as goal

abbrev pub invariant-loop-i : goal.invariant-loop-i
invariant-loop-i l = l.capacity ≡ min (l.link.fixed + modules_capacity l.link.modules (take l.i l.counts)) (2 ^ 46)
