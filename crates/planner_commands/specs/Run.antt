-- the result of a run: its status, and the text that it writes
use Rattle.std.{specs.Prelude.{◌≡◌, ◌≢◌, ℕ, ◌⊎◌, List, [], Option, String}, specs.Global.Global}
use Rattle.plan_terms.specs.Terms.{Notes, Case}
use Rattle.outside_io.{specs.Outside.{Files, Rose, Takes, TakesPrefix}, specs.declared.status.Status.Status, specs.declared.status.Status.TheVariants.{Done, BadWords, WriteFault, BadScript, BadReport, NoMemory, BadFlows}}
use Rattle.plan_report.specs.Terms.{known_to, SpellsReport, Report}
use Rattle.session_script.{specs.declared.script.Command.Command, specs.declared.script.Script.Script, specs.Terms.SpellsScript}
use Rattle.sample_net.specs.Samples.{no_notes}
use Rattle.flow_file.{specs.FlowFiles.SpellsFlows, specs.declared.flow.FlowFile.FlowFile}
use Rattle.input_files.specs.Inputs.{EndsAfterInputs, Fetched, RefusesFlowFile, RefusesReportFile, RefusesScriptFile, StopsAtFile, input_limit, report_limit}
use Rattle.check_answers.specs.Checks.{IsJudged}
use Rattle.command_answers.specs.Answers.{IsPrintedReport, EndsPlan, EndsTrim, EndsProve, EndsImported, sample_case, IsSummary}
use Rattle.planner_commands.specs.Commands.{IsCommand, usage}
use Rattle.planner_commands.specs.Commands as commands

-- ---- a session

-- the result of a session: reading its script ends the run, or the text is the report of the script's commands, and is read back as it
abbrev pub EndsSession : Option Files → List ℕ → Case → Notes → Status → List ℕ → Type 0
EndsSession files name p notes status text =
    StopsAtFile files input_limit name BadScript (RefusesScriptFile p.places) status text
    ⊎ ((script : Script) × (report : Report)
    × Fetched files input_limit name (SpellsScript p.places) script
    × (status ≡ Done) × IsPrintedReport p notes script.commands report text × SpellsReport (known_to p) text report)

-- ---- a check

-- the result of a check: reading its report ends the run, or the report is judged
abbrev pub EndsCheck : Option Files → List ℕ → Case → Notes → Status → List ℕ → Type 0
EndsCheck files name p notes status text =
    StopsAtFile files report_limit name BadReport (RefusesReportFile (known_to p)) status text
    ⊎ ((r : Report) × Fetched files report_limit name (SpellsReport (known_to p)) r × IsJudged p notes r status text)

-- ---- an import

-- the result of an import: reading its file of flows ends the run, or the file is imported
abbrev pub EndsImport : Option Files → List ℕ → Case → Notes → Status → List ℕ → Type 0
EndsImport files name p notes status text =
    StopsAtFile files input_limit name BadFlows (RefusesFlowFile (known_to p) p.demands) status text
    ⊎ ((file : FlowFile) × Fetched files input_limit name (SpellsFlows (known_to p) p.demands) file × EndsImported p notes file status text)

-- ---- commands

-- the result of a command
abbrev pub EndsCommand : Option Files → commands.Command → Status → List ℕ → Type 0
EndsCommand files (commands.Plan w) = EndsAfterInputs files w EndsPlan
EndsCommand files (commands.Session w script) = EndsAfterInputs files w (EndsSession files script)
EndsCommand files (commands.Check w report) = EndsAfterInputs files w (EndsCheck files report)
EndsCommand files (commands.Trim w) = EndsAfterInputs files w EndsTrim
EndsCommand files (commands.Prove limit w) = EndsAfterInputs files w (EndsProve limit)
EndsCommand files (commands.Import w flows) = EndsAfterInputs files w (EndsImport files flows)
EndsCommand files (commands.Sample seed nodes) = λ status text. (status ≡ Done) × IsSummary seed nodes (sample_case seed nodes) no_notes text

-- ---- a run

-- The result of a run, with its whole text: memory runs out, which needs no cause; or the words are no command; or they are one.
abbrev pub Ends : List (String Global) → Option Files → Status → List ℕ → Type 0
Ends words files status text =
    ((status ≡ NoMemory) × (text ≡ []))
    ⊎ ((status ≡ BadWords) × ((c : commands.Command) → IsCommand words c → ⊥) × (text ≡ usage))
    ⊎ ((c : commands.Command) × IsCommand words c × EndsCommand files c status text)

-- The sink takes the whole text, and the status stays; or there is a text and writing it fails, which the sink counts, and a prefix is taken.
abbrev pub PutsText : {K : Type 0} → (K → Option (List ℕ)) → (K → ℕ) → Status → List ℕ → Status → K → K → Type 0
PutsText taken faults status text result old new =
    ((result ≡ status) × Takes (taken old) (taken new) text)
    ⊎ ((result ≡ WriteFault) × (text ≢ []) × Rose (faults old) (faults new) × TakesPrefix (taken old) (taken new) text)
