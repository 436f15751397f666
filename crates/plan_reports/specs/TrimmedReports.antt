-- the result of a trimming: the report of a plan from which no module can be spared, or the first separation
use Rattle.std.specs.Prelude.{List}
use Rattle.plan_terms.specs.Terms.{Notes, Case}
use Rattle.acceptance.specs.Terms.{IsTranscript, IsSeparationOf}
use Rattle.trim_plan.{specs.declared.trimmed_plan.Block.Block, specs.Trimmed.IsTrimmedBy}
use Rattle.plan_reports.{specs.Laws.IsAcceptable, specs.LonePlans.{plan_commands, whole_report}, specs.declared.planned_report.PlannedReport.PlannedReport, specs.declared.trim.TrimEnding.TrimEnding}
use Rattle.plan_reports.specs.declared.trim.TrimEnding.TheVariants as ending

-- The report is a transcript of one plan command, and its one outcome is a plan that is trimmed by the blocks. It has no finding, and no counts that can
-- carry the demands cost less than the plan's bound.
pub record IsTrimmedReport (p : Case) (notes : Notes) (r : PlannedReport) (blocks : List Block) : Type 0 where
  pub transcript : IsTranscript p notes plan_commands (whole_report r)
  pub trimmed : IsTrimmedBy p r.plan.counts blocks
  pub acceptable : IsAcceptable p notes (whole_report r)

-- a trimmed report with its blocks, or the first separation
abbrev pub IsTrimEnding : Case → Notes → TrimEnding → Type 0
IsTrimEnding p notes (ending.Trimmed r blocks) = IsTrimmedReport p notes r blocks
IsTrimEnding p notes (ending.Separated state demand) = IsSeparationOf p state.0 demand
