-- able counts meet each line, and what a state leaves of them meets each robust line
use Rattle.std.proofs.Common.{ℕ, zero, suc, ◌≤◌, inl, inr, true, false, List, length, refl, subst, sym}
use Rattle.net_core.proofs.Library.{false≢true}
use Rattle.plan_terms.specs.Terms.{Case, IsAble}
use Rattle.line_check.{specs.Inequalities.MeetsLine, specs.Laws.{LinesAreMet, RobustLinesAreMet, surviving_counts}, specs.Lines.{IsMadeFrom, Naming, Source, names_among}, specs.declared.inequality.Inequality.Inequality, specs.declared.line.Line.TheVariants.{Divided, Table}, specs.declared.line.TableKind.TheVariants.{Plain, Failing}, proofs.CutLines.cut_line_met, proofs.DividedLines.divided_line_met, proofs.FailingTables.failing_table_is_met, proofs.PlainTables.plain_table_is_met, proofs.RobustCuts.robust_cut_met, proofs.SurvivingCounts.surviving_shape}

module _ (p : Case) (counts : List (List ℕ)) (able : IsAble p counts) where
  -- what a state leaves meets each line of a naming
  abbrev MeetsLeft : ℕ → (ℕ → Inequality → Type 0) → Type 0
  MeetsLeft s names = (i : ℕ) (l : Inequality) → names i l → MeetsLine p.links l (surviving_counts p s counts)

  robust_made_met : (s : ℕ) → s ≤ length p.listed → (names : Naming) → MeetsLeft s (names true) → (source : Source) (made : Inequality) → IsMadeFrom p names true source made
      → MeetsLine p.links made (surviving_counts p s counts)
  robust_made_met s low names met (inl cut) made is =
      subst (λ l. MeetsLine p.links l (surviving_counts p s counts)) (sym is.2) (robust_cut_met p s cut counts is.0 (is.1 refl) able low)
  robust_made_met s low names met (inr (Divided divisor terms)) made is = divided_line_met p.links (surviving_counts p s counts) (names true) met divisor terms made is
  robust_made_met s low names met (inr (Table index Plain weights)) made is =
      plain_table_is_met p is.0 weights made (surviving_counts p s counts) (surviving_shape p s counts able.shape) is.2 (met index is.0 is.1)
  robust_made_met s low names met (inr (Table index Failing weights)) made is = absurd (false≢true (sym is.0))

  robust_met : (s : ℕ) → s ≤ length p.listed → (sources : List Source) (n : ℕ) → MeetsLeft s (names_among p sources n true)
  robust_met s low sources zero i l names = absurd names
  robust_met s low sources (suc n) i l (inl before) = robust_met s low sources n i l before
  robust_met s low sources (suc n) i l (inr here) = robust_made_met s low (names_among p sources n) (robust_met s low sources n) here.1.source l here.1.is

  made_met : (names : Naming) → ((i : ℕ) (l : Inequality) → names false i l → MeetsLine p.links l counts) → ((s : ℕ) → s ≤ length p.listed → MeetsLeft s (names true))
      → (source : Source) (made : Inequality) → IsMadeFrom p names false source made → MeetsLine p.links made counts
  made_met names met left (inl cut) made is = subst (λ l. MeetsLine p.links l counts) (sym is.2) (cut_line_met p cut counts is.0 able)
  made_met names met left (inr (Divided divisor terms)) made is = divided_line_met p.links counts (names false) met divisor terms made is
  made_met names met left (inr (Table index Plain weights)) made is = plain_table_is_met p is.0 weights made counts able.shape is.2 (met index is.0 is.1)
  made_met names met left (inr (Table index Failing weights)) made is =
      failing_table_is_met p is.1.0 weights made counts able.shape (λ s low. left s low index is.1.0 is.1.1) is.1.2

  line_met : (sources : List Source) (n i : ℕ) (l : Inequality) → names_among p sources n false i l → MeetsLine p.links l counts
  line_met sources zero i l names = absurd names
  line_met sources (suc n) i l (inl before) = line_met sources n i l before
  line_met sources (suc n) i l (inr here) =
      made_met (names_among p sources n) (line_met sources n) (λ s low. robust_met s low sources n) here.1.source l here.1.is

pub lines_are_met : LinesAreMet
lines_are_met p sources i line counts names able = line_met p counts able sources (length sources) i line names

pub robust_lines_are_met : RobustLinesAreMet
robust_lines_are_met p sources i line counts s names able low = robust_met p counts able s low sources (length sources) i line names
