-- a transcript of commands has no finding, and the bounds of its plans hold
use Rattle.std.proofs.Common.{◌≡◌, ◌∙◌, ℕ, ◌+◌, ◌≤◌, ◌++◌, ◌==◌, List, [], ◌∷◌, All, length, get_or, take, drop, sym, ap, subst, arith, refl, ⊎_elim, eq-eqb, length-append, length-take-le, take-append-drop}
use Rattle.net_core.proofs.Library.{∥∥₁_elim, props, nat_tests, length-map, All-cons, All-nil}
use Rattle.plan_terms.{specs.Terms.{Entry, Notes, Case, IsAble, total_cost}, proofs.Lemmas.weak_duality}
use Rattle.plan_types.{specs.Terms.{IsCarryingPlan, IsCertifiedPlan, lines_of_certificate}, specs.declared.plan.Plan.Plan, specs.declared.report.Outcome.Outcome, specs.declared.report.Outcome.TheVariants.{Planned, Unsurvivable}, specs.declared.report.Report.Report}
use Rattle.cut_pool.specs.Terms.{cut_of_line, cuts_of, demands_left, version_left, case_left}
use Rattle.session_run.{specs.Terms.{IsFullHistory, IsSpotIn}, proofs.Lemmas.cuts_both, specs.Transcripts.{IsOutcomeAfter, IsPlanBetween, IsSeparationOf, IsTranscript, RunsFrom, acts_of, outcome_caller, outcomes_of}, proofs.Counts.few_entries, proofs.OutcomeForms.kept_one}
use Rattle.plan_checker.specs.Terms.{HoldNone, IsTight}
use Rattle.report_checker.specs.Terms.{IsBelowAllAble, SeparatesNamed, case_at, outcome_findings, HasNoFinding, whole_findings}
use Rattle.session_script.{specs.declared.script.Act.Act, specs.declared.script.Command.Command}
use Rattle.acceptance.{specs.Reports.{IsSoundOutcomeOf, IsSoundPlanOf, IsSoundRefusalOf}, specs.Transcripts.{TranscriptsAreAccepted, TranscriptsAreSound}, proofs.Reports.{outcome_none, sound_reports_are_accepted}, proofs.Snapshots.tight_where_claimed, proofs.Sound.none_prop}
use Rattle.session_script.specs.declared.script.Act.TheVariants as acts

module _ (p : Case) (notes : Notes) (commands : List Command) (r : Report) (few : length commands ≤ 1000) (t : IsTranscript p notes commands r) where
  abbrev es : List Entry
  es = r.entries

  pooled_cuts : length r.pool ≡ length (cuts_of es)
  pooled_cuts = ∥∥₁_elim t.pool_is (hlevel props) (λ is. sym (length-map r.pool cut_of_line) ∙ ap length is.cuts)

  cuts_before : (m : ℕ) → length (cuts_of (take m es)) ≤ length (cuts_of es)
  cuts_before m =
      let all : cuts_of (take m es) ++ cuts_of (drop m es) ≡ cuts_of es = sym (cuts_both (take m es) (drop m es)) ∙ ap cuts_of (take-append-drop m es) in
      let sum = ap length all in
      let parts = length-append (cuts_of (take m es)) (cuts_of (drop m es)) in
      omega (arith, sum, parts)

  -- a cut outside the pool has found it full
  pool_full : (m : ℕ) → m ≤ length es → IsFullHistory (take m es) → 4096 ≤ length r.pool
  pool_full m le none =
      let pooled = pooled_cuts in
      let lines = t.form.few_lines in
      let entries = few_entries p notes commands r t in
      ⊎_elim
      (λ full. let before = cuts_before m in omega (arith, full, before, pooled))
      (λ long. let taken = length-take-le m es le in absurd (omega (arith, long, taken, le, entries, lines, few)))
      none

  module _ (caller n m serial : ℕ) (within : n ≤ m) (last : m ≤ length es) where
    -- the position of a plan, and the entries before it
    module _ (plan : Plan) (after : IsPlanBetween p (take n es) (take m es) plan) where
      place : plan.position ≡ n
      place = after.sound.same_position ∙ (after.position ∙ length-take-le n es (omega (arith, within, last)))

      before : take n es ≡ take plan.position es
      before = ap (λ k. take k es) (sym place)

      sound_plan : IsSoundPlanOf p r plan
      sound_plan = record {
        position = let at = place in omega (arith, at, within, last);
        version = after.sound.same_version ∙ (after.version ∙ ap (version_left p) before);
        demands = after.sound.same_demands ∙ (after.demands ∙ ap (demands_left p) before);
        carrying = subst (λ es'. IsCarryingPlan (case_left p es') plan) before after.sound.carrying;
        costed = after.sound.costed;
        certified = subst (λ es'. IsCertifiedPlan (case_left p es') plan) before after.sound.certified;
        pooled = λ k d lt is.
            let line = get_or plan.certificate.lines k d in
            let full : 4096 ≤ length r.pool = pool_full m last (subst (IsSpotIn (take m es) (cut_of_line line.cut)) is (after.sound.spots k d lt)).0 in
            grind (arith, nat_tests, full);
        tight = λ f is. subst (λ es'. IsTight (case_left p es') plan f) before (tight_where_claimed (case_left p (take n es)) after.snapshot (take m es) plan after.sound f is);
      }

      bound_holds : (counts : List (List ℕ)) → IsAble (case_at p es plan.position) counts → plan.bound ≤ total_cost p.links counts
      bound_holds counts able =
          weak_duality (case_left p (take n es)) plan.certificate.den (lines_of_certificate plan.certificate) plan.bound counts
          after.sound.certified.certificate after.sound.certified.rounded
          (subst (λ es'. IsAble (case_left p es') counts) (sym before) able)

    sound_refusal : (version position state : ℕ) (name : List ℕ) → version ≡ version_left p (take n es) → position ≡ length (take n es) → IsSeparationOf (case_left p (take n es)) state name
        → IsSoundRefusalOf p r version position state name
    sound_refusal version position state name version_is position_is is =
        let at : position ≡ n = position_is ∙ length-take-le n es (omega (arith, within, last)) in
        let before : take n es ≡ take position es = ap (λ k. take k es) (sym at) in
        record {
          within = omega (arith, at, within, last);
          version_there = version_is ∙ ap (version_left p) before;
          separates = subst (λ es'. SeparatesNamed (case_left p es') state name) before
              (record { place = is.place; separates = is.first.separates; named = is.named });
        }

    outcome_clean : (o : Outcome) → IsOutcomeAfter p (take n es) (take m es) caller serial o → HoldNone (outcome_findings p r o)
    outcome_clean (Planned by number plan) is =
        ∥∥₁_elim is.2 (none_prop (outcome_findings p r (Planned by number plan))) (λ after. outcome_none p r (Planned by number plan) (sound_plan plan after))
    outcome_clean (Unsurvivable by number version position state demand) is =
        outcome_none p r (Unsurvivable by number version position state demand) (sound_refusal version position state.0 demand is.2 is.3 is.4)

    outcome_sound : (o : Outcome) → IsOutcomeAfter p (take n es) (take m es) caller serial o → ∥ IsSoundOutcomeOf p r o ∥₁
    outcome_sound (Planned by number plan) is = ∥∥₁_elim is.2 (hlevel props) (λ after. ∣ sound_plan plan after ∣₁)
    outcome_sound (Unsurvivable by number version position state demand) is = ∣ sound_refusal version position state.0 demand is.2 is.3 is.4 ∣₁

    outcome_bound : (o : Outcome) → IsOutcomeAfter p (take n es) (take m es) caller serial o → IsBelowAllAble p r o
    outcome_bound (Planned by number plan) is = λ counts able. ∥∥₁_elim is.2 (hlevel props) (λ after. bound_holds plan after counts able)
    outcome_bound (Unsurvivable by number version position state demand) is = tt

  -- what holds of each outcome at its place holds of all
  module _ (Q : Outcome → Type 0) (each : (caller n m serial : ℕ) → n ≤ m → m ≤ length es → (o : Outcome) → IsOutcomeAfter p (take n es) (take m es) caller serial o → Q o) where
    of_run : (caller at serial : ℕ) (asked : List Act) (os : List Outcome) → RunsFrom p es caller at serial asked os → All Q os
    of_run caller at serial [] [] run = All-nil Q
    of_run caller at serial [] (o ∷ os) run = absurd run
    of_run caller at serial (acts.Change edit ∷ asked) os run = of_run caller (run.0 + 1) serial asked os run.4
    of_run caller at serial (acts.Plan ∷ asked) [] run = absurd run
    of_run caller at serial (acts.Plan ∷ asked) (o ∷ os) run =
        All-cons Q o os (each caller run.0 run.1 serial run.3 run.4 o run.5) (of_run caller run.1 (serial + 1) asked os run.6)

    of_all : All Q r.outcomes
    of_all = λ k d lt.
        let o = get_or r.outcomes k d in
        let caller = outcome_caller o in
        kept_one Q (λ x. outcome_caller x == caller) r.outcomes (of_run caller 0 1 (acts_of caller commands) (outcomes_of caller r.outcomes) (t.runs caller)) k d lt (eq-eqb caller caller refl)

  pub transcript_sound : All (λ o. ∥ IsSoundOutcomeOf p r o ∥₁) r.outcomes
  transcript_sound = of_all (λ o. ∥ IsSoundOutcomeOf p r o ∥₁) outcome_sound

  whole_clean : HoldNone (whole_findings notes p r)
  whole_clean =
      let one = none_prop (whole_findings notes p r) in
      ∥∥₁_elim t.legal one (λ legal. ∥∥₁_elim t.pool_is one (λ pool.
      (sound_reports_are_accepted notes p (record { notes = r.notes; entries = r.entries; pool = r.pool; outcomes = [] }) t.notes_are legal pool (λ k d lt. absurd (omega (arith, lt)))).whole))

  pub transcript_accepted : HasNoFinding notes p r × All (IsBelowAllAble p r) r.outcomes
  transcript_accepted = (
    record { whole = whole_clean; outcomes = of_all (λ o. HoldNone (outcome_findings p r o)) outcome_clean },
    of_all (IsBelowAllAble p r) outcome_bound,
  )

pub transcripts_are_accepted : TranscriptsAreAccepted
transcripts_are_accepted p notes commands r few t = transcript_accepted p notes commands r few t

pub transcripts_are_sound : TranscriptsAreSound
transcripts_are_sound p notes commands r few t = transcript_sound p notes commands r few t
