-- the outcome of the bytes of a report: its view, or a message
use Rattle.std.specs.Prelude.{◌≡◌, ℕ, ◌⊎◌, List, [], ◌++◌, codes}
use Rattle.plan_terms.specs.Terms.{Case, Notes}
use Rattle.plan_report.specs.Terms.{SpellsReport, known_to, Report}
use Rattle.report_checker.specs.Terms.{Finding, IsFirstOfReport}
use Rattle.report_words.specs.Terms.{report_kind_word}
use Rattle.report_reader.specs.ReadingReport.{report_of}
use Rattle.check_answers.specs.Checks.{IsJudged}
use Rattle.outside_io.{specs.declared.status.Status.Status, specs.declared.status.Status.TheVariants.{BadReport, Done, Rejected}}
use Rattle.fault_texts.specs.Quotes.{note_text}
use Rattle.fault_messages.specs.Terms.{finding_message, AreReportNotes, report_message}
use Rattle.view_text.specs.declared.proof.CostProof.{CostProof}
use Rattle.people_files.specs.Messages.{ShowsFault}
use Rattle.people_views.{specs.Forms.HasForm, specs.declared.form.ViewForm.ViewForm, specs.AcceptedReports.IsAcceptedReport, specs.ProofLines.{FailsAtLines, ReadsProof}}

-- the bytes spell no report of a case, and the message shows the place of their first fault
abbrev pub ShowsReportFault : Case → List ℕ → List ℕ → List ℕ → Type 0
ShowsReportFault p name =
    ShowsFault (SpellsReport (known_to p)) (report_of (known_to p)) (codes "report") report_kind_word (report_message p.places) (AreReportNotes p) name

-- what is said of a file: what is wrong, and what that means
abbrev pub said_text : List ℕ → List ℕ × List ℕ → List ℕ
said_text name words = name ++ codes ": " ++ words.0 ++ codes "\n" ++ note_text words.1

-- the message says of the report's file what this finding says, and ends in the planner's own line
abbrev pub SaysFinding : List ℕ → Case → Notes → Report → Finding → List ℕ → Type 0
SaysFinding name p notes r finding message = (line : List ℕ) × IsJudged p notes r Rejected line × (message ≡ said_text name (finding_message finding) ++ line)

-- the message tells the first finding of the report
abbrev pub TellsFinding : List ℕ → Case → Notes → Report → List ℕ → Type 0
TellsFinding name p notes r message =
    (outcome : ℕ) × (finding : Finding) × IsFirstOfReport notes p r outcome finding × SaysFinding name p notes r finding message

-- The outcome of an accepted report in a form, whose bytes these are: a message of the lines below it, or its view, with what they show.
abbrev pub ViewsAccepted : ViewForm → List ℕ → List ℕ → Case → Report → List ℕ → Status → List ℕ → List ℕ → Type 0
ViewsAccepted form network name p r bytes status text message =
    ((text ≡ []) × FailsAtLines name p r.outcomes bytes status message)
    ⊎ ((status ≡ Done) × (message ≡ []) × ((proof : CostProof) × ReadsProof p r.outcomes bytes proof × HasForm form network p r.outcomes proof text))

-- the outcome of a report: a message of its first finding, or it is accepted
abbrev pub ViewsReport : ViewForm → List ℕ → List ℕ → Case → Notes → Report → List ℕ → Status → List ℕ → List ℕ → Type 0
ViewsReport form network name p notes r bytes status text message =
    ((status ≡ Rejected) × (text ≡ []) × TellsFinding name p notes r message)
    ⊎ (IsAcceptedReport p notes r × ViewsAccepted form network name p r bytes status text message)

-- The outcome of the bytes of a report's file: a message of their first fault, or the outcome of the report that they spell. The view is of the
-- network's file of the first name, and a message of the report's file of the second.
abbrev pub EndsReport : ViewForm → List ℕ → List ℕ → Case → Notes → List ℕ → Status → List ℕ → List ℕ → Type 0
EndsReport form network name p notes bytes status text message =
    ((status ≡ BadReport) × (text ≡ []) × ShowsReportFault p name bytes message)
    ⊎ ((r : Report) × SpellsReport (known_to p) bytes r × ViewsReport form network name p notes r bytes status text message)
