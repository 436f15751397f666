-- the result of a plan for people: a status, a text, and a message
use Rattle.std.specs.Prelude.{◌≡◌, ℕ, ◌≤◌, ◌<◌, ◌⊎◌, Bool, true, false, Option, None, Some, List, [], ◌++◌, All, codes, length, slice_get, take}
use Rattle.plan_terms.specs.Terms.{Case, Link, Notes}
use Rattle.plan_report.specs.Terms.{SpellsReport, known_to, report_text, Outcome}
use Rattle.proof_report.{specs.Terms.{whole_report, AreCharged}, specs.ProvedReports.{IsLinedReport, proof_text, proved_report}, specs.declared.ending.ProvedReport.ProvedReport}
use Rattle.tree_check.{specs.declared.proof.Proof.Proof, specs.declared.proof.Verdict.Verdict}
use Rattle.check_answers.specs.Separations.{NamesFirstSeparation}
use Rattle.outside_io.{specs.declared.status.Status.Status, specs.declared.status.Status.TheVariants.{BadNetwork, Done, NotSurvivable}}
use Rattle.failure_states.specs.declared.separations.Separation.{Separation}
use Rattle.failure_texts.specs.AllSeparations.{AreSeparations, separation_lines}
use Rattle.view_text.{specs.Terms.{IsFirstBlock, IsReportView}, specs.declared.proof.CostProof.CostProof, specs.declared.proof.CostProof.TheVariants.{Cheapest, Above}}
use Rattle.tree_check.specs.declared.proof.Verdict.TheVariants as verdict

-- ---- splits

-- how many splits a branch tree has at most by default: 100 up to 20 nodes, 10 up to 40, and else none
abbrev pub IsDefaultLimit : ℕ → ℕ → Type 0
IsDefaultLimit nodes limit =
    ((nodes ≤ 20) × (limit ≡ 100))
    ⊎ ((20 < nodes) × (nodes ≤ 40) × (limit ≡ 10))
    ⊎ ((40 < nodes) × (limit ≡ 0))

-- the number of splits that is asked for, or the default for this number of nodes
abbrev pub IsLimitOf : Option ℕ → ℕ → ℕ → Type 0
IsLimitOf None nodes limit = IsDefaultLimit nodes limit
IsLimitOf (Some splits) nodes limit = limit ≡ splits

-- ---- a plan

-- what a tree of this number of boxes with this verdict tells of the cost
abbrev pub cost_told : ℕ → Verdict → CostProof
cost_told boxes verdict.Cheapest = Cheapest boxes
cost_told boxes (verdict.Above least) = Above boxes least

-- what a proof tells of the cost of its plan
abbrev pub told_of_proof : Proof → CostProof
told_of_proof proof = cost_told (length proof.tree) proof.verdict

-- the outcomes of the report: its plan alone
abbrev pub told_outcomes : ProvedReport → List Outcome
told_outcomes r = (whole_report (proved_report r)).outcomes

-- The text is the view of the report with what its proof tells. Or, if the report is wanted, the text is the report with the comment lines of the proof,
-- which is read back as the report, and the message is the first block of the view.
abbrev pub PrintsReport : List ℕ → Bool → Case → ProvedReport → List ℕ → List ℕ → Type 0
PrintsReport network false p r text message = IsReportView network p (told_outcomes r) (told_of_proof r.proof) text × (message ≡ [])
PrintsReport network true p r text message =
    (text ≡ report_text (known_to p) (whole_report (proved_report r)) ++ proof_text p r.proof)
    × SpellsReport (known_to p) text (whole_report (proved_report r))
    × IsFirstBlock network p (told_outcomes r) (told_of_proof r.proof) message

-- Text and message are of the report of a plan: a transcript of one plan command of caller 1 without a finding, with a proof by a search with this limit.
-- If the proof says that the plan is cheapest, no counts that can carry the demands cost less.
pub record PrintsPlan (network : List ℕ) (limit : ℕ) (wanted : Bool) (p : Case) (notes : Notes) (text message : List ℕ) : Type 0 where
  pub report : ProvedReport
  pub proved : IsLinedReport p notes limit report
  pub printed : PrintsReport network wanted p report text message

-- ---- no plan

-- what is said before the lines of the separations
abbrev pub separated_words : List ℕ → List ℕ
separated_words network = network ++ codes ": there is no plan, since some demands can't be carried\n"

-- the message names each demand that a state separates, and ends in the planner's line of the first one
pub record SaysSeparations (network : List ℕ) (p : Case) (message : List ℕ) : Type 0 where
  pub found : List Separation
  pub are_all : AreSeparations p found
  pub line : List ℕ
  pub names_first : NamesFirstSeparation p line
  pub printed : message ≡ separated_words network ++ separation_lines p found ++ line

-- all modules of the link cost something
abbrev pub IsDearLink : Link → Type 0
IsDearLink l = All (λ m. 0 < m.cost) l.modules

-- link e is the first one with a module that costs nothing
pub record IsFirstFreeLink (links : List Link) (e : ℕ) (link : Link) : Type 0 where
  pub at : slice_get links e ≡ Some link
  pub here : IsDearLink link → ⊥
  pub before : All IsDearLink (take e links)

-- what is said of such a link, with the planner's line of it at the end
abbrev pub free_link_message : List ℕ → List ℕ → List ℕ
free_link_message network name =
    network ++ codes ": a module of link " ++ name
    ++ codes " costs nothing\n  a plan is shown to be cheap only where each module costs something; give it a cost, as 0.001\n"
    ++ codes "refused network free-module at 0\n"

-- the message names the first link with a module that costs nothing
abbrev pub SaysFreeLink : List ℕ → List Link → List ℕ → Type 0
SaysFreeLink network links message = (e : ℕ) × (link : Link) × IsFirstFreeLink links e link × (message ≡ free_link_message network link.name)

-- ---- all

-- the result of a plan where all modules cost something: its texts, or a message of all separations
abbrev pub EndsChargedPlan : List ℕ → ℕ → Bool → Case → Notes → Status → List ℕ → List ℕ → Type 0
EndsChargedPlan network limit wanted p notes status text message =
    ((status ≡ Done) × PrintsPlan network limit wanted p notes text message)
    ⊎ ((status ≡ NotSurvivable) × (text ≡ []) × SaysSeparations network p message)

-- the result of a plan with a branch tree of at most this number of splits: a module costs nothing, or the result where all cost something
abbrev pub EndsPlanWithin : List ℕ → ℕ → Bool → Case → Notes → Status → List ℕ → List ℕ → Type 0
EndsPlanWithin network limit wanted p notes status text message =
    ((status ≡ BadNetwork) × (text ≡ []) × SaysFreeLink network p.links message)
    ⊎ (AreCharged p.links × EndsChargedPlan network limit wanted p notes status text message)

-- The result of a plan for people, unless memory runs out. The network's file has this name; the number of splits is asked for or the default; and the
-- report or its view is wanted.
abbrev pub EndsPlanForPeople : List ℕ → Option ℕ → Bool → Case → Notes → Status → List ℕ → List ℕ → Type 0
EndsPlanForPeople network splits wanted p notes status text message =
    (limit : ℕ) × IsLimitOf splits (length p.nodes) limit × EndsPlanWithin network limit wanted p notes status text message
