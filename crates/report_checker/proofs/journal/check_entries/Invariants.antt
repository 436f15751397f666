use Rattle.std.proofs.Common.{ℕ, ◌<◌, take}
use Rattle.plan_terms.specs.Terms.{case_of}
use Rattle.plan_checker.specs.Terms.{HoldsAt}
use Rattle.report_checker.{specs.Journals.IsOtherEntry, specs.inner.Walks.HasPassed}
use Rattle.report_checker.proofs.journal.check_entries.Given as goal

-- the entries so far are passed, and none of them is another than the one that is expected
abbrev pub invariant-loop-k : goal.invariant-loop-k
invariant-loop-k l = let p = case_of l.instance in record {
  passed : HasPassed p (take l.k l.entries) l.walk;
  none : (j : ℕ) → j < l.k → HoldsAt l.entries j (IsOtherEntry p (take j l.entries)) → ⊥;
}
