use Rattle.std.proofs.Common.{◌≡◌, drop}
use Rattle.view_svg.specs.ReportPictures.{first_plan}
use Rattle.view_svg.proofs.report.first_plan.Given as goal

-- the first plan is among the outcomes from here on
abbrev pub invariant-loop-outcome : goal.invariant-loop-outcome
invariant-loop-outcome l = first_plan (drop l.outcome-index l.outcomes) ≡ first_plan l.outcomes
