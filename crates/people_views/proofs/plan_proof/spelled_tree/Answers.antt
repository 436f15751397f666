use Rattle.std.proofs.Common.{◌≡◌, ℕ, [], Err, Result, codes, refl, subst, sym}
use Rattle.text_kit.{specs.Terms.AnswersAs, specs.declared.refusal.Refusal.Refusal}
use Rattle.plan_report.specs.Terms.{known_to}
use Rattle.report_words.{specs.Terms.report_kind_word, specs.declared.fault.ReportKind.ReportKind}
use Rattle.tree_reader.{specs.ReadingTrees.{Gives, tree_at}, specs.Trees.SpellsTree, specs.declared.tree.ReadTree.ReadTree}
use Rattle.outside_io.specs.declared.status.Status.TheVariants.{BadReport}
use Rattle.fault_messages.specs.ReportMessages.{proof_message}
use Rattle.plan_view.specs.Terms.{problem_case}
use Rattle.people_files.{proofs.Showing.fault_shown, specs.Messages.HasNoNotes}
use Rattle.people_views.specs.ProofLines.{SpellsPlanTree, lines_begin}
use Rattle.people_views.proofs.plan_proof.spelled_tree.Goals as goal

-- reading a tree ends with a refusal
abbrev refused : Refusal ReportKind → Result ReadTree (Refusal ReportKind)
refused refusal = Err refusal

pub returns-in-Ok-clause-spelled : goal.returns-in-Ok-clause-spelled
returns-in-Ok-clause-spelled c =
    let p = problem_case c.args.problem.now in
    subst (λ (k : ℕ). SpellsTree (known_to p) c.args.plan.now.demands k c.args.bytes.now c.in-Ok.tree) c.requires.from c.in-Ok.ensures.found

pub returns-in-Err-Bad-clause-refused : goal.returns-in-Err-Bad-clause-refused
returns-in-Err-Bad-clause-refused c =
    let p = problem_case c.args.problem.now in
    let demands = c.args.plan.now.demands in
    let bytes = c.args.bytes.now in
    fault_shown (SpellsPlanTree p c.args.plan.now) (λ b. tree_at (known_to p) demands (lines_begin b) b) (codes "report") report_kind_word proof_message HasNoNotes BadReport
    c.args.name.now bytes c.in-Err-Bad.at c.in-Err-Bad.kind c.proof_sentence.result.wrong.now c.proof_sentence.result.help.now [] c.refused.result
    (λ t spelled. subst (λ (q : Refusal ReportKind). AnswersAs (λ (x : ReadTree). x) (refused q) t) c.in-Err-Bad.field-0-is
    (c.in-Err-Bad.ensures.only t (subst (λ (k : ℕ). SpellsTree (known_to p) demands k bytes t) (sym c.requires.from) spelled)))
    (subst (λ (k : ℕ). tree_at (known_to p) demands k bytes ≡ Err (c.in-Err-Bad.at, c.in-Err-Bad.kind)) c.requires.from
    (subst (λ (q : Refusal ReportKind). Gives (refused q) (tree_at (known_to p) demands c.args.from bytes)) c.in-Err-Bad.field-0-is c.in-Err-Bad.ensures.exact))
    c.proof_sentence.ensures refl c.refused.ensures
