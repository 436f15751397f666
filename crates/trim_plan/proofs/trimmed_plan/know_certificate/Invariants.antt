use Rattle.std.proofs.Common.{◌≡◌}
use Rattle.plan_terms.specs.Terms.{case_of}
use Rattle.able_counts.specs.AbleTests.{IsTestOf}
use Rattle.trim_plan.proofs.trimmed_plan.know_certificate.Given as goal

-- the test is one of the case, with the routings that it had
abbrev pub invariant-loop-line : goal.invariant-loop-line
invariant-loop-line l = IsTestOf (case_of l.instance) l.test × (l.test.routings ≡ l.initial.test.routings)
