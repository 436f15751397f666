-- a line that was taken, and what is left then
use Rattle.std.proofs.Common.{◌≡◌, ℕ, List, Option, Ok, ap, sym, subst, ◌∙◌}
use Rattle.plan_terms.specs.Terms.{Demand}
use Rattle.plan_report.specs.Terms.{KnownNames}
use Rattle.snd_tokens.specs.Terms.{Text}
use Rattle.text_kit.specs.Terms.{Read}
use Rattle.report_words.specs.declared.fault.ReportKind.{ReportKind}
use Rattle.tree_check.specs.declared.proof.Verdict.{Verdict}
use Rattle.tree_reader.{specs.declared.sofar.Sofar.Sofar, specs.declared.sofar.TreeLine.TreeLine, specs.declared.sofar.TreeLine.TheVariants.{Cut, Further, Branch, Last}, specs.CommentTexts.{Comments, CommentAt, comments_from}, specs.ReadingTrees.{PutsLine, TakesLine, after_line, ended_by, lines_at, put_line, tree_line_at}}

module _ (known : KnownNames) (demands : List Demand) (bytes : List ℕ) (old new : Sofar) (from at : ℕ) where
  put_taken : (x : TreeLine) (v : Option Verdict) → PutsLine old x v new
      → lines_at known demands old (comments_from from bytes) ≡ put_line old x (λ s. lines_at known demands s (comments_from at bytes)) (λ w. ended_by old w (comments_from at bytes))
      → TakesLine known demands bytes (Ok v) old from new at
  put_taken (Cut c) v puts e = subst (λ (w : Option Verdict). TakesLine known demands bytes (Ok w) old from new at) (sym puts.0) (e ∙ ap (λ (s : Sofar). lines_at known demands s (comments_from at bytes)) (sym puts.1))
  put_taken (Further l) v puts e = subst (λ (w : Option Verdict). TakesLine known demands bytes (Ok w) old from new at) (sym puts.0) (e ∙ ap (λ (s : Sofar). lines_at known demands s (comments_from at bytes)) (sym puts.1))
  put_taken (Branch n) v puts e = subst (λ (w : Option Verdict). TakesLine known demands bytes (Ok w) old from new at) (sym puts.0) (e ∙ ap (λ (s : Sofar). lines_at known demands s (comments_from at bytes)) (sym puts.1))
  put_taken (Last w) v puts e = subst (λ (o : Option Verdict). TakesLine known demands bytes (Ok o) old from new at) (sym puts.0) (e ∙ ap (λ (s : Sofar). ended_by s w (comments_from at bytes)) (sym puts.1))

  pub line_taken : (text rest : Text) (x : TreeLine) (v : Option Verdict) → comments_from from bytes ≡ CommentAt text (comments_from at bytes) → tree_line_at known demands old text ≡ Ok (x, rest) → PutsLine old x v new
      → TakesLine known demands bytes (Ok v) old from new at
  line_taken text rest x v here read puts =
      put_taken x v puts
      (ap (λ (c : Comments). lines_at known demands old c) here
      ∙ ap (λ (q : Read ReportKind TreeLine). after_line old q (λ s. lines_at known demands s (comments_from at bytes)) (λ w. ended_by old w (comments_from at bytes))) read)
