use Rattle.std.proofs.Common.{All, take}
use Rattle.session_run.specs.inner.Ranges.{IsShortNamed}
use Rattle.session_run.proofs.ranges.are_short_named.Given as goal

-- the outcomes so far
abbrev pub invariant-loop-outcome : goal.invariant-loop-outcome
invariant-loop-outcome l = All IsShortNamed (take l.outcome-index l.outcomes)
