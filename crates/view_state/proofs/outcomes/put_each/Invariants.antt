use Rattle.std.proofs.Common.{take}
use Rattle.plan_view.specs.Terms.{problem_case}
use Rattle.text_kit.specs.Terms.{AddsText}
use Rattle.view_state.specs.StateViews.{AreStateTexts}
use Rattle.view_state.proofs.outcomes.put_each.Given as goal

-- the texts so far
abbrev pub invariant-loop-outcome : goal.invariant-loop-outcome
invariant-loop-outcome l = AddsText (AreStateTexts (problem_case l.problem) l.state (take l.outcome-index l.outcomes)) l.fn.text l.text
