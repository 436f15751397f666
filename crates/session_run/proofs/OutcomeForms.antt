-- outcomes of commands that have run are in form
use Rattle.std.proofs.Common.{◌≡◌, ℕ, zero, suc, ◌+◌, ◌<◌, ◌≤◌, ◌⊎◌, inl, inr, List, [], ◌∷◌, ◌++◌, All, Bool, true, false, cond, Some, ◌==◌, drop, get_or, if◌then◌else◌, length, map, slice_get, take, refl, sym, ap, subst, ◌∙◌, ⊎_elim, arith, filter, eq-eqb, ne_eqb, length-take-le, take-append-drop}
use Rattle.net_core.proofs.Library.{∥∥₁_elim, cases_eq, cond-true, All-cons, All-filter, All-head, All-nil, All-tail, count_by-le-length, length-filter, get_front}
use Rattle.plan_terms.specs.Terms.{Entry, CutLine, Case}
use Rattle.plan_report.specs.Terms.{known_to, IsHeadInForm, IsOfPool, IsOutcomeInForm, Spot, Pool, Local, Outcome, Planned, Unsurvivable}
use Rattle.cut_pool.specs.Terms.{cut_of_line, cuts_of, version_left}
use Rattle.session_script.{specs.declared.script.Act.Act, specs.declared.script.Act.TheVariants.{Change, Plan}, specs.declared.script.Command.Command, specs.Terms.{IsCommandInForm, IsScript}}
use Rattle.separation_workers.specs.Terms.{IsSpotIn}
use Rattle.planner.proofs.Histories.{cuts_both, version_few}
use Rattle.session_run.{specs.Transcripts.{IsOutcomeAfter, RunsFrom, acts_of, outcome_caller, outcomes_of}, specs.inner.Ranges.IsShortNamed, specs.inner.Running.{HaveRun, all_own}, proofs.FormProps.outcome_prop, proofs.Journals.line_at}

-- ---- callers

-- a caller that asks for something is one from 1 to 8
callers_known : (commands : List Command) (caller : ℕ) → All IsCommandInForm commands → (acts_of caller commands ≡ []) ⊎ ((1 ≤ caller) × (caller ≤ 8))
callers_known [] caller each = inl refl
callers_known (c ∷ cs) caller each = ⊎_elim
    (λ (e : c.caller ≡ caller).
    let form = All-head IsCommandInForm c cs each in
    inr (omega (arith, e, form.some), omega (arith, e, form.most)))
    (λ ne. ⊎_elim
    (λ (none : acts_of caller cs ≡ []). inl (ap (λ b. (if b then c.act ∷ [] else []) ++ acts_of caller cs) (ne_eqb c.caller caller ne) ∙ none))
    inr
    (callers_known cs caller (All-tail IsCommandInForm c cs each)))
    (cases_eq c.caller caller)

-- ---- lists

-- of a list, what holds of all that pass a test holds of each that passes it
kept_rest : {X : Type 0} (P : X → Type 0) (b : Bool) (x : X) (xs : List X) → All P (cond b (x ∷ xs) xs) → All P xs
kept_rest P true x xs all = All-tail P x xs all
kept_rest P false x xs all = all

pub kept_one : {X : Type 0} (P : X → Type 0) (test : X → Bool) (xs : List X) → All P (filter test xs) → (k : ℕ) (d : X) → k < length xs → test (get_or xs k d) ≡ true → P (get_or xs k d)
kept_one P test [] all k d lt passes = absurd (omega (arith, lt))
kept_one P test (x ∷ xs) all zero d lt passes = All-head P x (filter test xs) (subst (All P) (cond-true (test x) (x ∷ filter test xs) (filter test xs) passes) all)
kept_one P test (x ∷ xs) all (suc k) d lt passes = kept_one P test xs (kept_rest P (test x) x (filter test xs) all) k d (omega (arith, lt)) passes

-- ---- outcomes

module _ (p : Case) (es : List Entry) (lines : List CutLine) (few : length es ≤ 65536) (same : map cut_of_line lines ≡ cuts_of es) where
  abbrev InForm : Outcome → Type 0
  InForm o = IsOutcomeInForm (known_to p) lines o

  -- a cut in the pool of the first entries is in the pool of all of them
  of_pool : (m : ℕ) (cut : CutLine) (spot : Spot) → IsSpotIn (take m es) (cut_of_line cut) spot → IsOfPool lines spot cut
  of_pool m cut (Pool i) stands =
      let all : cuts_of (take m es) ++ cuts_of (drop m es) ≡ cuts_of es = sym (cuts_both (take m es) (drop m es)) ∙ ap cuts_of (take-append-drop m es) in
      let at : slice_get (cuts_of es) i ≡ Some (cut_of_line cut) = sym (ap (λ cuts. slice_get cuts i) all) ∙ get_front (cuts_of (take m es)) (cuts_of (drop m es)) i (cut_of_line cut) stands in
      line_at es lines i cut same at
  of_pool m cut Local stands = tt

  module _ (caller : ℕ) (some : 1 ≤ caller) (most : caller ≤ 8) where
    head_form : (by serial number version n : ℕ) → by ≡ caller → number ≡ serial → 1 ≤ serial → serial ≤ 64 → n ≤ length es → version ≡ version_left p (take n es)
        → (position : ℕ) → position ≡ length (take n es) → IsHeadInForm by number version position
    head_form by serial number version n one two first last le version_is position position_is =
        let before = version_few p (take n es) in
        let count = length-take-le n es le in
        record {
          some_caller = omega (arith, one, some);
          most_caller = omega (arith, one, most);
          some_serial = omega (arith, two, first);
          most_serial = omega (arith, two, last);
          most_version = omega (arith, version_is, before, count, le, few);
          most_position = omega (arith, position_is, count, le, few);
        }

    outcome_form : (n m serial : ℕ) (o : Outcome) → n ≤ length es → 1 ≤ serial → serial ≤ 64 → IsShortNamed o → IsOutcomeAfter p (take n es) (take m es) caller serial o → InForm o
    outcome_form n m serial (Planned by number plan) le first last short is =
        ∥∥₁_elim is.2 (outcome_prop (known_to p) lines (Planned by number plan)) (λ after.
        record {
          command = head_form by serial number plan.version n is.0 is.1 first last le (after.sound.same_version ∙ after.version) plan.position (after.sound.same_position ∙ after.position);
          plan = after.sound.form;
          pooled = λ k d lt. of_pool m _ _ (after.sound.spots k d lt);
        })
    outcome_form n m serial (Unsurvivable by number version position state demand) le first last short is = record {
      command = head_form by serial number version n is.0 is.1 first last le is.2 position is.3;
      state_listed = is.4.first.state;
      short = short;
    }

    -- the outcomes of a run
    run_form : (at serial : ℕ) (acts : List Act) (os : List Outcome) → RunsFrom p es caller at serial acts os → 1 ≤ serial → serial + length os ≤ 65 → All IsShortNamed os → All InForm os
    run_form at serial [] [] run first last short = All-nil InForm
    run_form at serial [] (o ∷ os) run first last short = absurd run
    run_form at serial (Change edit ∷ acts) os run first last short = run_form (run.0 + 1) serial acts os run.4 first last short
    run_form at serial (Plan ∷ acts) [] run first last short = absurd run
    run_form at serial (Plan ∷ acts) (o ∷ os) run first last short =
        All-cons InForm o os
        (outcome_form run.0 run.1 serial o (omega (arith, run.3, run.4)) first (omega (arith, last)) (All-head IsShortNamed o os short) run.5)
        (run_form run.1 (serial + 1) acts os run.6 (omega arith) (omega (arith, last)) (All-tail IsShortNamed o os short))

  -- a caller that asks for nothing has no outcomes
  none_form : (caller : ℕ) (os : List Outcome) → RunsFrom p es caller 0 1 [] os → All InForm os
  none_form caller [] run = All-nil InForm
  none_form caller (o ∷ os) run = absurd run

  module _ (commands : List Command) (outcomes : List Outcome) (script : IsScript commands) (h : HaveRun p (all_own es) commands outcomes) (short : All IsShortNamed outcomes) where
    few_of : (caller : ℕ) → length (outcomes_of caller outcomes) ≤ 64
    few_of caller =
        let count = h.count in
        let plans = script.plans in
        omega (arith, count, plans, length-filter (λ (o : Outcome). outcome_caller o == caller) outcomes, count_by-le-length (λ (o : Outcome). outcome_caller o == caller) outcomes)

    caller_form : (caller : ℕ) → All InForm (outcomes_of caller outcomes)
    caller_form caller = ⊎_elim
        (λ (none : acts_of caller commands ≡ []). none_form caller (outcomes_of caller outcomes) (subst (λ acts. RunsFrom p es caller 0 1 acts (outcomes_of caller outcomes)) none (h.runs caller)))
        (λ (known : (1 ≤ caller) × (caller ≤ 8)).
        run_form caller known.0 known.1 0 1 (acts_of caller commands) (outcomes_of caller outcomes) (h.runs caller) (omega arith) (let most = few_of caller in omega (arith, most))
        (All-filter (λ (o : Outcome). outcome_caller o == caller) IsShortNamed outcomes short))
        (callers_known commands caller script.each)

    pub outcomes_form : (sorted : List Outcome) → ((caller : ℕ) → outcomes_of caller sorted ≡ outcomes_of caller outcomes) → All InForm sorted
    outcomes_form sorted kept k d lt =
        let caller = outcome_caller (get_or sorted k d) in
        kept_one InForm (λ (o : Outcome). outcome_caller o == caller) sorted (subst (All InForm) (sym (kept caller)) (caller_form caller)) k d lt (eq-eqb caller caller refl)
