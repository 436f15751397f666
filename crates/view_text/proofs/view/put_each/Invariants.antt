use Rattle.std.proofs.Common.{take}
use Rattle.text_kit.specs.Terms.{AddsText}
use Rattle.plan_view.specs.Terms.{problem_case}
use Rattle.view_text.specs.Reports.{AreOutcomeViews}
use Rattle.view_text.proofs.view.put_each.Given as goal

-- the views so far
abbrev pub invariant-loop-outcome : goal.invariant-loop-outcome
invariant-loop-outcome l = AddsText (AreOutcomeViews (problem_case l.problem) (take l.outcome-index l.outcomes)) l.fn.text l.text
