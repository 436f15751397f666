-- what the lines below a report show, from the results of reading and checking them
use Rattle.std.proofs.Common.{◌≡◌, ◌∙◌, ℕ, Bool, true, false, List, Result, Ok, Err, IfErr, IfOk, OnOk, ap, inl, inr, length, sym}
use Rattle.net_core.proofs.Library.{false≢true}
use Rattle.plan_terms.specs.Terms.{Case}
use Rattle.plan_types.specs.declared.plan.Plan.{Plan}
use Rattle.outside_io.specs.declared.status.Status.TheVariants.{BadReport, Rejected}
use Rattle.tree_check.specs.Proofs.{IsAcceptedProof}
use Rattle.tree_reader.{specs.CommentTexts.comments_from, specs.TreeWords.has_tree_line, specs.declared.tree.ReadTree.ReadTree}
use Rattle.plan_view.specs.Terms.{case_of_plan}
use Rattle.view_text.specs.declared.proof.CostProof.{CostProof}
use Rattle.people_files.{specs.Endings.Halts, specs.declared.stop.Halt.Halt, proofs.Causing.halt_map}
use Rattle.people_views.specs.ProofLines.{FailsAtPlanLines, FailsAtTree, HasTreeLine, ReadsPlanProof, ShowsByTree, ShowsNoTree, SpellsPlanTree, TellsRejectedTree, lines_begin, proof_by, told_by}

module _ (name : List ℕ) (p : Case) (plan : Plan) (bytes : List ℕ) where
  -- a tree that was spelled and holds
  pub tree_read : (t : ReadTree) (r : Result CostProof Halt) → SpellsPlanTree p plan bytes t → OnOk r (IsAcceptedProof (case_of_plan p plan) (proof_by plan t))
      → IfOk r (λ proof. proof ≡ told_by (length t.tree) t.verdict) → IfOk r (ShowsByTree p plan bytes)
  tree_read t (Ok proof) spelled accepted told = (t, spelled, accepted, told)
  tree_read t (Err h) spelled accepted told = tt

  -- and one that was spelled and doesn't
  pub tree_fails : (t : ReadTree) (r : Result CostProof Halt) → SpellsPlanTree p plan bytes t → IfErr r (Halts (λ s message. (s ≡ Rejected) × TellsRejectedTree name p plan t message))
      → IfErr r (Halts (FailsAtTree name p plan bytes))
  tree_fails t (Ok proof) spelled held = tt
  tree_fails t (Err h) spelled held =
      halt_map (λ s message. (s ≡ Rejected) × TellsRejectedTree name p plan t message) (FailsAtTree name p plan bytes) h (λ s message tells. inr (tells.0, (t, spelled, tells.1))) held

  -- lines that spell none
  pub none_read : (h : Halt) → Halts (λ s message. (s ≡ BadReport) × ShowsNoTree name p plan bytes message) h → Halts (FailsAtTree name p plan bytes) h
  none_read h held = halt_map (λ s message. (s ≡ BadReport) × ShowsNoTree name p plan bytes message) (FailsAtTree name p plan bytes) h (λ s message shows. inl shows) held

  -- whether there is a line of a tree below the report
  pub line_found : (from : ℕ) (b : Bool) → from ≡ lines_begin bytes → b ≡ has_tree_line (comments_from from bytes) → b ≡ true → HasTreeLine bytes
  line_found from b begins is found = ap (λ (k : ℕ). has_tree_line (comments_from k bytes)) (sym begins) ∙ (sym is ∙ found)

  pub no_line : (from : ℕ) (b : Bool) → from ≡ lines_begin bytes → b ≡ has_tree_line (comments_from from bytes) → b ≡ false → HasTreeLine bytes → ⊥
  no_line from b begins is none has = false≢true (sym none ∙ (is ∙ (ap (λ (k : ℕ). has_tree_line (comments_from k bytes)) begins ∙ has)))

  pub lines_read : (r : Result CostProof Halt) → IfOk r (ShowsByTree p plan bytes) → IfOk r (ReadsPlanProof p plan bytes)
  lines_read (Ok proof) shows = inr shows
  lines_read (Err h) shows = tt

  pub lines_fail : (r : Result CostProof Halt) → HasTreeLine bytes → IfErr r (Halts (FailsAtTree name p plan bytes)) → IfErr r (Halts (FailsAtPlanLines name p plan bytes))
  lines_fail (Ok proof) has held = tt
  lines_fail (Err h) has held = halt_map (FailsAtTree name p plan bytes) (FailsAtPlanLines name p plan bytes) h (λ s message fails. (has, fails)) held
