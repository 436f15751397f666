use Rattle.std.proofs.Common.{◌+◌, ◌*◌, ◌≤◌}
use Rattle.plan_view.proofs.fractions.thousandths.Given as goal

-- the part is no less than the number so far, less a half
abbrev pub invariant-loop-n : goal.invariant-loop-n
invariant-loop-n l = (2 * l.n) * l.whole ≤ 2 * (1000 * l.part) + l.whole
