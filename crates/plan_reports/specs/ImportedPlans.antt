-- the result of an import: a plan with another tool's design, or the first fault
use Rattle.std.specs.Prelude.{◌≡◌, ◌≢◌}
use Rattle.plan_terms.specs.Terms.{Notes, Case, capacities}
use Rattle.plan_types.specs.declared.report.Report.{Report}
use Rattle.acceptance.specs.Terms.{IsTranscript, IsSeparationOf}
use Rattle.flow_file.specs.declared.flow.FlowFile.{FlowFile}
use Rattle.flow_import.{specs.declared.fault.ImportFault.ImportFault, specs.declared.fault.ImportFault.TheVariants.NoMemory, specs.declared.imported.Imported.Imported, specs.Imports.{IsFirstStateFault, IsImported}}
use Rattle.plan_reports.{specs.Laws.IsAcceptable, specs.LonePlans.{IsSoundDesign, plan_commands, redesigned, whole_report}, specs.declared.planned_report.PlannedReport.PlannedReport, specs.declared.import.ImportEnding.ImportEnding}
use Rattle.plan_reports.specs.declared.import.ImportEnding.TheVariants as ending

-- the report of a plan with the imported counts, cost and routings in the place of its own
abbrev pub with_design : PlannedReport → Imported → PlannedReport
with_design planned i = redesigned planned i.counts i.cost i.routings

-- The report is that of a plan of the case, except that the plan's counts, cost and routings are those of the file. The routings carry the demands in each
-- state, each flow comes of a split of the file's flows, and the cost is what the file's counts cost. The report is in form, it has no finding, and no
-- counts that can carry the demands cost less than the plan's bound.
pub record IsImportedReport (p : Case) (notes : Notes) (file : FlowFile) (r : Report) : Type 0 where
  pub planned : PlannedReport
  pub transcript : IsTranscript p notes plan_commands (whole_report planned)
  pub imported : Imported
  pub of_file : IsImported p file imported
  pub same : r ≡ whole_report (with_design planned imported)
  pub sound : IsSoundDesign p (with_design planned imported).plan
  pub acceptable : IsAcceptable p notes r

-- a plan of the case can be made, and the fault is the first of the file's flows
pub record HasImportFault (p : Case) (notes : Notes) (file : FlowFile) (fault : ImportFault) : Type 0 where
  pub planned : PlannedReport
  pub transcript : IsTranscript p notes plan_commands (whole_report planned)
  pub first : IsFirstStateFault p (capacities p.links file.counts) file.flows fault
  pub told : fault ≢ NoMemory

-- a report with the imported design, the first fault, or the first separation
abbrev pub IsImportEnding : Case → Notes → FlowFile → ImportEnding → Type 0
IsImportEnding p notes file (ending.Imported r) = IsImportedReport p notes file (whole_report r)
IsImportEnding p notes file (ending.Faulty fault) = HasImportFault p notes file fault
IsImportEnding p notes file (ending.Separated state demand) = IsSeparationOf p state.0 demand
