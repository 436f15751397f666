-- the result of each command once its files are read: a status, and a text
use Rattle.std.specs.Prelude.{◌≡◌, ℕ, ◌+◌, ◌⊎◌, List, [], ◌∷◌, ◌++◌, All, codes, decimal, length}
use Rattle.plan_terms.specs.Terms.{Notes, Three, Case}
use Rattle.plan_report.specs.Terms.{known_to, SpellsReport, report_text, Plan, Quality, Tight, Loose, Planned, Report}
use Rattle.report_checker.specs.Terms.{IsBelowAllAble, HasNoFinding}
use Rattle.session_script.specs.declared.script.Command.{Command}
use Rattle.plan_reports.{specs.Terms.{IsTranscript, plan_commands}, specs.declared.planned_report.PlannedReport.PlannedReport, specs.ImportedPlans.{HasImportFault, IsImportedReport}}
use Rattle.sample_net.specs.Samples.{sample_demands, sample_links, sample_nodes, with_single_failures}
use Rattle.flow_file.specs.declared.flow.FlowFile.{FlowFile}
use Rattle.flow_import.specs.declared.fault.ImportFault.{ImportFault}
use Rattle.proof_report.{specs.Terms.{whole_report, Block, block_lines, IsTrimmedReport, AreCharged}, specs.ProvedReports.{IsProvedReport, proved_report, proof_text}, specs.declared.ending.ProvedReport.ProvedReport}
use Rattle.text_kit.specs.Terms.{money_word}
use Rattle.check_answers.specs.Separations.{NamesFirstSeparation}
use Rattle.outside_io.{specs.declared.status.Status.Status, specs.declared.status.Status.TheVariants.{Done, BadNetwork, NotSurvivable, BadImport}}
use Rattle.command_answers.specs.ImportFaults.{import_fault_line}

-- ---- reports

-- The text is that of this report, which is a transcript of the commands, from the opening demands of the case. The report has no finding, and no counts
-- that can carry the demands of one of its plans cost less than that plan's bound.
pub record IsPrintedReport (p : Case) (notes : Notes) (commands : List Command) (r : Report) (text : List ℕ) : Type 0 where
  pub transcript : IsTranscript p notes commands r
  pub clean : HasNoFinding notes p r
  pub bounded : All (IsBelowAllAble p r) r.outcomes
  pub printed : text ≡ report_text (known_to p) r

-- ---- a plan

-- the text is the report of a plan
pub record IsPlanReport (p : Case) (notes : Notes) (text : List ℕ) : Type 0 where
  pub report : Report
  pub plan : Plan
  pub alone : report.outcomes ≡ Planned 1 1 plan ∷ []
  pub printed : IsPrintedReport p notes plan_commands report text

-- the result of planning, unless memory runs out: a text that is read back as the report of a plan, or the first separation
abbrev pub EndsPlan : Case → Notes → Status → List ℕ → Type 0
EndsPlan p notes status text =
    ((status ≡ Done) × ((planned : IsPlanReport p notes text) × SpellsReport (known_to p) text planned.report))
    ⊎ ((status ≡ NotSurvivable) × NamesFirstSeparation p text)

-- ---- a trimmed plan

-- The text is the report of a plan from which no module can be spared, and then a comment line for each module that tells what keeps it. It is read back as
-- the report.
pub record IsPrintedTrim (p : Case) (notes : Notes) (text : List ℕ) : Type 0 where
  pub report : PlannedReport
  pub blocks : List Block
  pub trimmed : IsTrimmedReport p notes report blocks
  pub printed : text ≡ report_text (known_to p) (whole_report report) ++ block_lines p.links p.demands blocks
  pub spelled : SpellsReport (known_to p) text (whole_report report)

-- the result of trimming, unless memory runs out: the text of a trimmed plan, or the first separation
abbrev pub EndsTrim : Case → Notes → Status → List ℕ → Type 0
EndsTrim p notes status text = ((status ≡ Done) × IsPrintedTrim p notes text) ⊎ ((status ≡ NotSurvivable) × NamesFirstSeparation p text)

-- ---- a plan with its branch tree

-- the line of a network in which a module costs nothing
abbrev pub free_module_line : List ℕ
free_module_line = codes "refused network free-module at 0\n"

-- the text is the report of a plan, and then the comment lines of its branch tree; it is read back as the report
pub record IsPrintedProof (p : Case) (notes : Notes) (limit : ℕ) (text : List ℕ) : Type 0 where
  pub report : ProvedReport
  pub proved : IsProvedReport p notes limit report
  pub printed : text ≡ report_text (known_to p) (whole_report (proved_report report)) ++ proof_text p report.proof
  pub spelled : SpellsReport (known_to p) text (whole_report (proved_report report))

-- the result of a proof where all modules cost something: the text of a proof, or the first separation
abbrev pub EndsCharged : ℕ → Case → Notes → Status → List ℕ → Type 0
EndsCharged limit p notes status text =
    ((status ≡ Done) × IsPrintedProof p notes limit text) ⊎ ((status ≡ NotSurvivable) × NamesFirstSeparation p text)

-- the result of a proof, unless memory runs out: the line that a module costs nothing, or the result where all cost something
abbrev pub EndsProve : ℕ → Case → Notes → Status → List ℕ → Type 0
EndsProve limit p notes status text =
    ((status ≡ BadNetwork) × (AreCharged p.links → ⊥) × (text ≡ free_module_line))
    ⊎ (AreCharged p.links × EndsCharged limit p notes status text)

-- ---- an import

-- the text is the report of a plan with the file's counts and flows in the place of its own, and is read back as it
pub record IsPrintedImport (p : Case) (notes : Notes) (file : FlowFile) (text : List ℕ) : Type 0 where
  pub report : Report
  pub imported : IsImportedReport p notes file report
  pub printed : text ≡ report_text (known_to p) report
  pub spelled : SpellsReport (known_to p) text report

-- the text names the first fault of the file's flows, for a case that has a plan
pub record NamesImportFault (p : Case) (notes : Notes) (file : FlowFile) (text : List ℕ) : Type 0 where
  pub fault : ImportFault
  pub first : HasImportFault p notes file fault
  pub printed : text ≡ import_fault_line p fault

-- the result of importing a file, unless memory runs out: the report with its design, its first fault, or the first separation of the case
abbrev pub EndsImported : Case → Notes → FlowFile → Status → List ℕ → Type 0
EndsImported p notes file status text =
    ((status ≡ Done) × IsPrintedImport p notes file text)
    ⊎ ((status ≡ BadImport) × NamesImportFault p notes file text)
    ⊎ ((status ≡ NotSurvivable) × NamesFirstSeparation p text)

-- ---- a sample

-- the case of a sample: its network, where each link fails alone, and its demands
abbrev pub sample_case : ℕ → ℕ → Case
sample_case seed nodes = with_single_failures (sample_nodes nodes) (sample_links seed nodes) (sample_demands seed nodes)

-- the line of a network's size
abbrev pub size_line : Case → List ℕ
size_line p =
    codes "nodes " ++ decimal (length p.nodes) ++ codes " links " ++ decimal (length p.links)
    ++ codes " demands " ++ decimal (length p.demands) ++ codes " states " ++ decimal (length p.listed + 1) ++ 10 ∷ []

-- the word of a plan's quality
abbrev pub quality_word : Quality → List ℕ
quality_word (Tight f) = codes "tight"
quality_word (Loose cause) = codes "loose"

-- the end of a line, and the lines of a plan's raw value and quality
abbrev pub raw_lines : Plan → List ℕ
raw_lines plan = codes "\nraw " ++ decimal plan.raw_num ++ 32 ∷ decimal plan.raw_den ++ codes "\nquality " ++ quality_word plan.quality ++ 10 ∷ []

-- the summary of a sample's plan
abbrev pub summary : ℕ → ℕ → Case → Plan → List ℕ
summary seed nodes p plan =
    codes "sample " ++ decimal seed ++ 32 ∷ decimal nodes ++ 10 ∷ size_line p
    ++ codes "cost " ++ money_word Three plan.cost ++ codes "\nbound " ++ money_word Three plan.bound ++ raw_lines plan

-- the text is the summary of a plan whose report is that of a plan of the case
pub record IsSummary (seed nodes : ℕ) (p : Case) (notes : Notes) (text : List ℕ) : Type 0 where
  pub report : List ℕ
  pub planned : IsPlanReport p notes report
  pub printed : text ≡ summary seed nodes p planned.plan
