use Rattle.std.proofs.Common.{◌-◌, ◌≤◌}
use Rattle.line_check.specs.inner.Tables.{AreKindsTo}
use Rattle.line_check.proofs.kinds.kinds_of.Given as goal

-- the kinds so far
abbrev pub invariant-loop-last : goal.invariant-loop-last
invariant-loop-last l = record {
  within : l.last ≤ l.need;
  are : AreKindsTo l.links l.over l.last l.kinds;
}

abbrev pub decreases-loop-last : goal.decreases-loop-last
decreases-loop-last l = l.need - l.last
