use Rattle.std.proofs.Common.{◌+◌}
use Rattle.plan_terms.specs.Terms.{case_of}
use Rattle.report_checker.specs.inner.Along.{AreSoundBefore}
use Rattle.report_checker.proofs.outcomes_along.check_outcomes_at.Given as goal

-- the outcomes so far are checked at this place too
abbrev pub invariant-loop-j : goal.invariant-loop-j
invariant-loop-j l = AreSoundBefore (case_of l.instance) l.report (l.place + 1) l.j
