use Rattle.std.proofs.Common.{take}
use Rattle.plan_terms.specs.Terms.{case_of}
use Rattle.report_checker.{specs.inner.Along.AreChecked, specs.inner.Walks.HasPassed}
use Rattle.report_checker.proofs.outcomes_along.check_along.Given as goal

-- the entries so far are passed, and the outcomes of the places before them are checked
abbrev pub invariant-loop-k : goal.invariant-loop-k
invariant-loop-k l = let p = case_of l.instance in record {
  passed : HasPassed p (take l.k l.report.entries) l.walk;
  checked : AreChecked p l.report l.k l.checked;
}
