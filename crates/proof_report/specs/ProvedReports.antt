-- the result of a proof: the report of a plan with its branch tree, or the first separation
use Rattle.std.specs.Prelude.{◌≡◌, ◌≢◌, ℕ, ◌≤◌, ◌++◌, List, [], All, AllPairs, Contains, flat_map, length, map}
use Rattle.plan_terms.specs.Terms.{Case, CutLine, Notes}
use Rattle.plan_report.specs.Terms.{Certificate, Plan}
use Rattle.report_comments.specs.Comments.{comment_line}
use Rattle.plan_reports.{specs.Terms.{IsTranscript, IsAcceptable, IsSeparationOf, plan_commands, whole_report, Block}, specs.declared.planned_report.PlannedReport.PlannedReport, specs.TrimmedReports.IsTrimmedReport}
use Rattle.tree_search.{specs.Terms.Proof, specs.Proving.{IsProofOf, ShowsBound, ShowsCheapest}}
use Rattle.tree_lines.specs.TreeLines.{proof_lines}
use Rattle.proof_report.{specs.declared.ending.ProofEnding.ProofEnding, specs.declared.ending.ProvedReport.ProvedReport}
use Rattle.proof_report.specs.declared.ending.ProofEnding.TheVariants as ending

-- ---- texts

-- the report with the proof's plan
abbrev pub proved_report : ProvedReport → PlannedReport
proved_report r = record { notes = r.notes; entries = r.entries; pool = r.pool; plan = r.proof.plan }

-- the comment lines of a proof of the case
abbrev pub proof_text : Case → Proof → List ℕ
proof_text p proof = flat_map comment_line (proof_lines p.links p.demands p.places proof)

-- ---- what a search begins with

-- the cuts of a certificate
abbrev pub certificate_cuts : Certificate → List CutLine
certificate_cuts c = map (λ l. l.cut) c.lines

-- the cuts that a search begins with: those of a pool, and after them those of a certificate that the pool lacks, each once
pub record AreHandedIn (pool own cuts : List CutLine) : Type 0 where
  pub others : List CutLine
  pub whole : cuts ≡ pool ++ others
  pub few : length others ≤ length own
  pub all : All (Contains cuts) own
  pub each : All (λ cut. Contains own cut × (Contains pool cut → ⊥)) others
  pub once : AllPairs ◌≢◌ others

-- the report of a trimmed plan
pub record IsTrimmedOnce (p : Case) (notes : Notes) (r : PlannedReport) : Type 0 where
  pub blocks : List Block
  pub trimmed : IsTrimmedReport p notes r blocks

-- ---- the result

-- The report is a transcript of one plan command, its one outcome is the proof's plan, and it has no finding. The proof is for the trimmed plan, by a
-- search with this limit that begins with the cuts of the pool and of the plan's certificate; with a limit of 0 its tree is the root alone. If it says that
-- the plan is cheapest, no counts that can carry the demands cost less; and none cost less than the value that it tells.
pub record IsLinedReport (p : Case) (notes : Notes) (limit : ℕ) (r : ProvedReport) : Type 0 where
  pub transcript : IsTranscript p notes plan_commands (whole_report (proved_report r))
  pub acceptable : IsAcceptable p notes (whole_report (proved_report r))
  pub given : Plan
  pub trimmed : IsTrimmedOnce p notes (record (proved_report r) { plan = given })
  pub handed : List CutLine
  pub begun : AreHandedIn r.pool (certificate_cuts given.certificate) handed
  pub proved : IsProofOf p given handed limit r.proof
  pub rooted : limit ≡ 0 → length r.proof.tree ≡ 1
  pub cheapest : ShowsCheapest p r.proof
  pub above : ShowsBound p r.proof

-- such a report with a proof over cuts alone
pub record IsProvedReport (p : Case) (notes : Notes) (limit : ℕ) (r : ProvedReport) : Type 0 where
  pub lined : IsLinedReport p notes limit r
  pub plain : r.proof.lines ≡ []

-- the report of a proof over cuts alone, or the first separation
abbrev pub IsProofEnding : Case → Notes → ℕ → ProofEnding → Type 0
IsProofEnding p notes limit (ending.Proved r) = IsProvedReport p notes limit r
IsProofEnding p notes limit (ending.Separated state demand) = IsSeparationOf p state.0 demand

-- the report of a proof, or the first separation
abbrev pub IsLinedEnding : Case → Notes → ℕ → ProofEnding → Type 0
IsLinedEnding p notes limit (ending.Proved r) = IsLinedReport p notes limit r
IsLinedEnding p notes limit (ending.Separated state demand) = IsSeparationOf p state.0 demand
