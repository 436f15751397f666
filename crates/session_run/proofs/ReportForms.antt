-- the report of a board and of the outcomes of commands that have run
use Rattle.std.proofs.Common.{◌≡◌, ℕ, ◌^◌, ◌<◌, ◌≤◌, ◌==◌, List, All, get_or, length, refl, sym, subst, arith, AllPairs, eq-eqb}
use Rattle.net_core.proofs.Library.{∥∥₁_elim, props, All-filter}
use Rattle.plan_terms.specs.Terms.{Entry, Notes, CutLine, AreDemands, IsCut, HasShortLengths}
use Rattle.plan_report.specs.Terms.{known_of, known_to, IsReportInForm, Outcome, Report}
use Rattle.cut_pool.{specs.declared.board.Board.Board, specs.Terms.{opening_case, IsLegalHistory, IsPoolAfter, case_left}}
use Rattle.planner.proofs.Histories.{board_few}
use Rattle.session_script.{specs.declared.script.Command.Command, specs.Terms.IsScript}
use Rattle.plan_types.specs.Terms.{outcome_position}
use Rattle.session_run.{specs.Transcripts.{IsPlanned, IsTranscript, RunsFrom, acts_of, outcome_caller, outcomes_of}, specs.inner.Ranges.IsShortNamed, specs.inner.Running.{HaveRun, all_own}, proofs.FormProps.report_prop, proofs.Journals.{entries_form, lines_few, lines_form}, proofs.OutcomeForms.{kept_one, outcomes_form}}

-- what holds of each of a caller's outcomes, for each caller, holds of all
of_all : (P : Outcome → Type 0) (xs ys : List Outcome) → ((caller : ℕ) → outcomes_of caller xs ≡ outcomes_of caller ys) → All P xs → All P ys
of_all P xs ys same all k d lt =
    let caller = outcome_caller (get_or ys k d) in
    kept_one P (λ (o : Outcome). outcome_caller o == caller) ys (subst (All P) (same caller) (All-filter (λ (o : Outcome). outcome_caller o == caller) P xs all)) k d lt (eq-eqb caller caller refl)

module _ (b : Board) (notes : Notes) (commands : List Command) (outcomes sorted : List Outcome) (lines : List CutLine) (opening : AreDemands (length b.net.now.nodes) b.opening.value) (script : IsScript commands)
    (run : HaveRun (opening_case b) (all_own b.entries) commands outcomes)
    (pool : ∥ IsPoolAfter (opening_case b) b.entries lines ∥₁) (cuts : ∥ All (IsCut (case_left (opening_case b) b.entries)) lines ∥₁) (low : All (λ l. l.right < 2 ^ 84) lines)
    (short : All HasShortLengths lines) (named : All IsShortNamed outcomes)
    (ordered : AllPairs (λ x y. outcome_caller x ≤ outcome_caller y) sorted) (same : (caller : ℕ) → outcomes_of caller sorted ≡ outcomes_of caller outcomes) (count : length sorted ≡ length outcomes) where
  abbrev all : Report
  all = record { notes = notes; entries = b.entries; pool = lines; outcomes = sorted }

  report_form : IsReportInForm (known_of b.net.now b.states.now) all
  report_form =
      let p = opening_case b in
      let one = report_prop (known_to p) all in
      ∥∥₁_elim b.stands one (λ board. ∥∥₁_elim pool one (λ is. ∥∥₁_elim cuts one (λ of.
      let commanded = run.count in
      let plans = script.plans in
      record {
        few_entries = b.few;
        entries = entries_form p b.entries lines run.entries opening b.few (board_few b) board.legal is.cuts;
        few_lines = lines_few b.entries lines is.cuts (board_few b);
        pool = lines_form (case_left p b.entries) lines of short low;
        few_outcomes = omega (arith, commanded, plans, count);
        outcomes = outcomes_form p b.entries lines b.few is.cuts commands outcomes script run named sorted same;
      })))

  legal : ∥ IsLegalHistory (opening_case b) b.entries ∥₁
  legal = ∥∥₁_elim b.stands (hlevel props) (λ board. ∣ board.legal ∣₁)

  -- what holds of all outcomes once they are sorted held before, and the other way round
  planned_before : All IsPlanned sorted → All IsPlanned outcomes
  planned_before = of_all IsPlanned sorted outcomes same

  first_after : All (λ o. outcome_position o ≡ 0) outcomes → All (λ o. outcome_position o ≡ 0) sorted
  first_after = of_all (λ o. outcome_position o ≡ 0) outcomes sorted (λ caller. sym (same caller))

  transcript_same : IsTranscript (opening_case b) notes commands all
  transcript_same = record {
    notes_are = refl;
    legal = legal;
    edits = run.edits;
    pool_is = pool;
    runs = λ caller. subst (RunsFrom (opening_case b) b.entries caller 0 1 (acts_of caller commands)) (sym (same caller)) (run.runs caller);
    ordered = ordered;
    form = report_form;
    alone = λ one planned. let first = run.alone one refl (planned_before planned) in (first_after first.0, first.1);
  }

  -- what is read from the network and the board is equal to theirs
  pub transcript : (noted : Notes) (entries : List Entry) (pooled : List CutLine) → noted ≡ notes → entries ≡ b.entries → pooled ≡ lines
      → IsTranscript (opening_case b) notes commands (record { notes = noted; entries = entries; pool = pooled; outcomes = sorted })
  transcript noted entries pooled one two three =
      subst (λ n. IsTranscript (opening_case b) notes commands (record { notes = n; entries = entries; pool = pooled; outcomes = sorted })) (sym one)
      (subst (λ es. IsTranscript (opening_case b) notes commands (record { notes = notes; entries = es; pool = pooled; outcomes = sorted })) (sym two)
      (subst (λ ls. IsTranscript (opening_case b) notes commands (record { notes = notes; entries = b.entries; pool = ls; outcomes = sorted })) (sym three) transcript_same))
