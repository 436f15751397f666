-- what an import answers
use Rattle.std.proofs.Common.{◌≢◌, refl, length, ⊎_elim}
use Rattle.plan_terms.specs.Terms.{Notes, Case, AreDemands, IsNetwork, capacities}
use Rattle.plan_report.specs.Terms.{known_to}
use Rattle.acceptance.specs.Terms.{IsTranscript}
use Rattle.flow_file.{specs.declared.flow.FlowFile.FlowFile, specs.FlowFiles.IsFlowFile}
use Rattle.flow_import.{specs.declared.fault.ImportFault.ImportFault, specs.declared.fault.ImportFault.TheVariants.NoMemory, specs.declared.imported.Imported.Imported, specs.Imports.{IsImportFault, IsImported}}
use Rattle.plan_reports.{specs.LonePlans.{plan_commands, whole_report}, specs.declared.planned_report.PlannedReport.PlannedReport, proofs.Accepted.redesigns_are_accepted, specs.ImportedPlans.{HasImportFault, IsImportedReport, with_design}, proofs.ImportedDesigns.sound_design}

module _ (p : Case) (notes : Notes) (file : FlowFile) (r : PlannedReport) (t : IsTranscript p notes plan_commands (whole_report r)) where
  pub imported_report : ∥ IsNetwork p.nodes p.links ∥₁ → AreDemands (length p.nodes) p.demands → IsFlowFile (known_to p) p.demands file
      → (i : Imported) → IsImported p file i → IsImportedReport p notes file (whole_report (with_design r i))
  imported_report net belong form i is =
      let design = sound_design p net belong file form r.plan i is in
      record {
        planned = r;
        transcript = t;
        imported = i;
        of_file = is;
        same = refl;
        sound = design;
        acceptable = redesigns_are_accepted p notes r i.counts i.cost i.routings t design;
      }

  pub fault_told : (fault : ImportFault) → fault ≢ NoMemory → IsImportFault p (capacities p.links file.counts) file.flows fault → HasImportFault p notes file fault
  fault_told fault told is = record {
    planned = r;
    transcript = t;
    first = ⊎_elim (λ none. absurd (told none)) (λ first. first) is;
    told = told;
  }
