use Rattle.std.proofs.Common.{take}
use Rattle.plan_view.specs.Terms.{problem_case}
use Rattle.view_csv.specs.Sheets.{AddsRows, AreOutcomeRows}
use Rattle.view_csv.proofs.outcomes.put_each.Given as goal

-- the rows so far
abbrev pub invariant-loop-outcome : goal.invariant-loop-outcome
invariant-loop-outcome l = AddsRows (AreOutcomeRows l.sheet (problem_case l.problem) (take l.outcome-index l.outcomes)) l.fn.all l.all
