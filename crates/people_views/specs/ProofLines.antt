-- what the comment lines below a report show of its plan
use Rattle.std.specs.Prelude.{◌≡◌, ℕ, ◌+◌, ◌⊎◌, true, List, [], ◌∷◌, ◌++◌, codes, cond, decimal, length, nat_eq, nat_lt}
use Rattle.plan_terms.specs.Terms.{Case}
use Rattle.plan_report.specs.Terms.{known_to, Plan, Outcome, Planned, Unsurvivable}
use Rattle.snd_tokens.specs.Terms.{tokens_from}
use Rattle.report_words.specs.Terms.{report_kind_word}
use Rattle.outside_io.specs.declared.status.Status.{Status}
use Rattle.tree_check.{specs.Proofs.{AnswersProof, IsAcceptedProof}, specs.declared.proof.Proof.Proof, specs.declared.proof.TreeAnswer.TheVariants.Rejected, specs.declared.proof.Verdict.Verdict}
use Rattle.tree_reader.{specs.CommentTexts.comments_from, specs.ReadingTrees.tree_at, specs.ReportEnds.end_after, specs.TreeWords.has_tree_line, specs.Trees.SpellsTree, specs.declared.tree.ReadTree.ReadTree}
use Rattle.fault_messages.specs.ReportMessages.{proof_message}
use Rattle.plan_view.specs.Terms.{case_of_plan}
use Rattle.view_text.{specs.declared.proof.CostProof.CostProof, specs.declared.proof.CostProof.TheVariants.{Nothing, Cheapest, Above}}
use Rattle.people_files.specs.Messages.{HasNoNotes, ShowsFault}
use Rattle.outside_io.specs.declared.status.Status.TheVariants as ends
use Rattle.tree_check.specs.declared.proof.Verdict.TheVariants as verdict

-- where the report ends, below which its comment lines follow
abbrev pub lines_begin : List ℕ → ℕ
lines_begin bytes = end_after 0 (tokens_from 0 bytes)

-- a comment line below the report begins as one of a branch tree does
abbrev pub HasTreeLine : List ℕ → Type 0
HasTreeLine bytes = has_tree_line (comments_from (lines_begin bytes) bytes) ≡ true

-- the comment lines below the report spell this tree of its plan
abbrev pub SpellsPlanTree : Case → Plan → List ℕ → ReadTree → Type 0
SpellsPlanTree p plan bytes t = SpellsTree (known_to p) plan.demands (lines_begin bytes) bytes t

-- the plan with a tree that was read
abbrev pub proof_by : Plan → ReadTree → Proof
proof_by plan t = record { plan = plan; cuts = t.cuts; lines = t.lines; tree = t.tree; verdict = t.verdict }

-- what a tree of this number of boxes with this verdict shows of the cost
abbrev pub told_by : ℕ → Verdict → CostProof
told_by boxes verdict.Cheapest = Cheapest boxes
told_by boxes (verdict.Above least) = Above boxes least

-- the lines below the report of a plan spell a tree of it that holds, and shows this of the plan's cost
abbrev pub ShowsByTree : Case → Plan → List ℕ → CostProof → Type 0
ShowsByTree p plan bytes proof =
    (t : ReadTree) × SpellsPlanTree p plan bytes t × IsAcceptedProof (case_of_plan p plan) (proof_by plan t) × (proof ≡ told_by (length t.tree) t.verdict)

-- The lines below the report of a plan show this of its cost: no line of a tree is there, and they show nothing, or a tree that holds.
abbrev pub ReadsPlanProof : Case → Plan → List ℕ → CostProof → Type 0
ReadsPlanProof p plan bytes proof = ((HasTreeLine bytes → ⊥) × (proof ≡ Nothing)) ⊎ ShowsByTree p plan bytes proof

-- the lines below a report with this outcome alone show this of a plan's cost; without a plan they aren't read
abbrev pub ReadsOutcomeProof : Case → Outcome → List ℕ → CostProof → Type 0
ReadsOutcomeProof p (Planned caller serial plan) bytes proof = ReadsPlanProof p plan bytes proof
ReadsOutcomeProof p (Unsurvivable caller serial version position state demand) bytes proof = proof ≡ Nothing

-- The lines below a report with these outcomes show this; where there isn't one alone, they aren't read.
abbrev pub ReadsProof : Case → List Outcome → List ℕ → CostProof → Type 0
ReadsProof p [] bytes proof = proof ≡ Nothing
ReadsProof p (outcome ∷ []) bytes proof = ReadsOutcomeProof p outcome bytes proof
ReadsProof p (outcome ∷ other ∷ outcomes) bytes proof = proof ≡ Nothing

-- the lines spell no tree of the plan, and the message shows the place of their first fault
abbrev pub ShowsNoTree : List ℕ → Case → Plan → List ℕ → List ℕ → Type 0
ShowsNoTree name p plan =
    ShowsFault (SpellsPlanTree p plan) (λ bytes. tree_at (known_to p) plan.demands (lines_begin bytes) bytes) (codes "report") report_kind_word proof_message
    HasNoNotes name

-- what is wrong past the nodes of a tree: one is missing, or the last line doesn't follow
abbrev pub end_wrong : ℕ → ℕ → List ℕ
end_wrong nodes k = cond (nat_eq k nodes) (codes "a node is missing after the last one") (codes "its last line doesn't follow from its nodes")

-- what is wrong with a tree of this number of nodes, of which a check rejects node k
abbrev pub tree_wrong : ℕ → ℕ → List ℕ
tree_wrong nodes k = cond (nat_lt k nodes) (codes "line " ++ decimal (k + 1) ++ codes " of its nodes doesn't hold") (end_wrong nodes k)

-- the message of such a tree
abbrev pub tree_message : List ℕ → ℕ → ℕ → List ℕ
tree_message name nodes k =
    name ++ codes ": the branch tree below the report doesn't show what it says\n  " ++ tree_wrong nodes k
    ++ codes "\nrejected tree " ++ decimal k ++ codes "\n"

-- a check rejects the plan's tree, and the message tells what is wrong with it first
abbrev pub TellsRejectedTree : List ℕ → Case → Plan → ReadTree → List ℕ → Type 0
TellsRejectedTree name p plan t message =
    (k : ℕ) × AnswersProof (case_of_plan p plan) (proof_by plan t) (Rejected k) × (message ≡ tree_message name (length t.tree) k)

-- the lines below the report of a plan spell no tree of it, or one that doesn't hold
abbrev pub FailsAtTree : List ℕ → Case → Plan → List ℕ → Status → List ℕ → Type 0
FailsAtTree name p plan bytes status message =
    ((status ≡ ends.BadReport) × ShowsNoTree name p plan bytes message)
    ⊎ ((status ≡ ends.Rejected) × ((t : ReadTree) × SpellsPlanTree p plan bytes t × TellsRejectedTree name p plan t message))

-- a line of a tree is there, and they fail so
abbrev pub FailsAtPlanLines : List ℕ → Case → Plan → List ℕ → Status → List ℕ → Type 0
FailsAtPlanLines name p plan bytes status message = HasTreeLine bytes × FailsAtTree name p plan bytes status message

-- the lines below a report with this outcome alone fail so
abbrev pub FailsAtOutcomeLines : List ℕ → Case → Outcome → List ℕ → Status → List ℕ → Type 0
FailsAtOutcomeLines name p (Planned caller serial plan) bytes status message = FailsAtPlanLines name p plan bytes status message
FailsAtOutcomeLines name p (Unsurvivable caller serial version position state demand) bytes status message = ⊥

-- the lines below a report with these outcomes fail so
abbrev pub FailsAtLines : List ℕ → Case → List Outcome → List ℕ → Status → List ℕ → Type 0
FailsAtLines name p [] bytes status message = ⊥
FailsAtLines name p (outcome ∷ []) bytes status message = FailsAtOutcomeLines name p outcome bytes status message
FailsAtLines name p (outcome ∷ other ∷ outcomes) bytes status message = ⊥
