-- what an outcome says
use Rattle.std.specs.Prelude.{ℕ}
use Rattle.plan_types.{specs.declared.report.Outcome.Outcome, specs.declared.report.Outcome.TheVariants.{Planned, Unsurvivable}}

-- the number of journal entries before it
abbrev pub outcome_position : Outcome → ℕ
outcome_position (Planned caller serial plan) = plan.position
outcome_position (Unsurvivable caller serial version position state demand) = position
