-- one command more
use Rattle.std.proofs.Common.{◌≡◌, ◌≢◌, ℕ, suc, ◌+◌, ◌==◌, true, false, cond, List, [], ◌∷◌, ◌++◌, All, flat_map, if◌then◌else◌, length, length-append, ⊎_elim, refl, sym, ap, subst, ◌∙◌, arith, Ok, count_by, eq-eqb, ne_eqb, append-nil}
use Rattle.net_core.proofs.Library.{∥∥₁_elim, props, All-append, All-head, All-push, All-tail, All-weaker, filter-append, sum_by-append, cases_eq, nil_from_length, flat_map-append}
use Rattle.plan_terms.specs.Terms.{Edit, Entry, Edited, Pooled, Reply, Case}
use Rattle.plan_report.specs.Terms.{Outcome, Planned, Unsurvivable}
use Rattle.cut_pool.specs.Terms.{cuts_of}
use Rattle.session_script.{specs.declared.script.Act.Act, specs.declared.script.Act.TheVariants.{Change, Plan}, specs.declared.script.Command.Command, specs.Terms.{IsActInForm, IsCommandInForm, asks_plan, is_plan}}
use Rattle.planner.{specs.Terms.IsWorkedPool, proofs.Lemmas.all_cuts, proofs.Histories.cuts_both}
use Rattle.separation_workers.{specs.Terms.{IsCutEntry, IsPartOf}, proofs.Lemmas.part_few}
use Rattle.plan_types.specs.Terms.{outcome_position}
use Rattle.turn_lock.specs.Passes.{Seen}
use Rattle.session_run.{specs.Transcripts.{IsOutcomeAfter, IsPlanned, RunsFrom, acts_of, outcome_caller, edit_asked, edit_made, outcomes_of}, specs.inner.Running.{HaveRun, IsEntryOfCaller}, specs.inner.Turns.{HasActed, PlansAt, Progress}, specs.declared.plans.Asked.Asked, proofs.Runs.{run_edit, run_later, run_plan}}

-- ---- lists taken apart

-- a list for a number that is the same, and for one that isn't
choose_same : {X : Type 0} (k : ℕ) (xs ys : List X) → (if k == k then xs else ys) ≡ xs
choose_same k xs ys = ap (λ b. if b then xs else ys) (eq-eqb k k refl)

pub choose_other : {X : Type 0} (k n : ℕ) (xs ys : List X) → k ≢ n → (if k == n then xs else ys) ≡ ys
choose_other k n xs ys ne = ap (λ b. if b then xs else ys) (ne_eqb k n ne)

-- the acts of the command's caller, and of another
acts_own : (commands : List Command) (c : Command) → acts_of c.caller (commands ++ c ∷ []) ≡ acts_of c.caller commands ++ c.act ∷ []
acts_own commands c =
    flat_map-append _ commands (c ∷ []) ∙ ap (λ xs. acts_of c.caller commands ++ xs) (append-nil (if c.caller == c.caller then c.act ∷ [] else []) ∙ choose_same c.caller (c.act ∷ []) [])

acts_other : (commands : List Command) (c : Command) (caller : ℕ) → c.caller ≢ caller → acts_of caller (commands ++ c ∷ []) ≡ acts_of caller commands
acts_other commands c caller ne =
    flat_map-append _ commands (c ∷ []) ∙ (ap (λ xs. acts_of caller commands ++ xs) (append-nil (if c.caller == caller then c.act ∷ [] else []) ∙ choose_other c.caller caller (c.act ∷ []) [] ne) ∙ append-nil (acts_of caller commands))

-- a list with a last item that is a list of one item
snoc_one : {X : Type 0} (xs : List X) (x k : X) → xs ++ x ∷ [] ≡ k ∷ [] → (xs ≡ []) × (x ≡ k)
snoc_one [] x k e = (refl, cc e)
snoc_one (y ∷ ys) x k e = let count = ap length e in absurd (omega (arith, count, length-append ys (x ∷ [])))

last_holds : {X : Type 0} (P : X → Type 0) (xs : List X) (x : X) → All P (xs ++ x ∷ []) → P x
last_holds P [] x all = All-head P x [] all
last_holds P (y ∷ ys) x all = last_holds P ys x (All-tail P y (ys ++ x ∷ []) all)

snoc_some : {X : Type 0} (xs : List X) (x : X) → xs ++ x ∷ [] ≢ []
snoc_some xs x e = let count = ap length e in omega (arith, count, length-append xs (x ∷ []))

-- ---- edits

-- further cuts are no edits
cuts_no_edits : (caller : ℕ) (es : List Entry) → All IsCutEntry es → flat_map (edit_made caller) es ≡ []
cuts_no_edits caller [] all = refl
cuts_no_edits caller (Edited by edit reply ∷ es) all = absurd (all 0 (Edited by edit reply) (omega arith))
cuts_no_edits caller (Pooled index state lengths ∷ es) all = cuts_no_edits caller es (λ k d lt. all (suc k) d (omega (arith, lt)))

-- further cuts are counted on both sides
pub few_more : (own more : List Entry) → All IsCutEntry more → length (own ++ more) + length (cuts_of own) ≡ length own + length (cuts_of (own ++ more))
few_more own more pooled =
    omega (arith, ap length (cuts_both own more), all_cuts more pooled, length-append own more, length-append (cuts_of own) (cuts_of more))

pub cuts_of_callers : (es : List Entry) → All IsCutEntry es → All IsEntryOfCaller es
cuts_of_callers es all = All-weaker IsCutEntry IsEntryOfCaller pooled es all
  where
    pooled : (e : Entry) → IsCutEntry e → IsEntryOfCaller e
    pooled (Edited by edit reply) is = absurd is
    pooled (Pooled index state lengths) is = tt

-- ---- outcomes

pub caller_is : (p : Case) (before after : List Entry) (caller serial : ℕ) (o : Outcome) → IsOutcomeAfter p before after caller serial o → outcome_caller o ≡ caller
caller_is p before after caller serial (Planned by number plan) is = is.0
caller_is p before after caller serial (Unsurvivable by number version position state demand) is = is.0

position_is : (p : Case) (before after : List Entry) (caller serial : ℕ) (o : Outcome) → IsOutcomeAfter p before after caller serial o → outcome_position o ≡ length before
position_is p before after caller serial (Planned by number plan) is = ∥∥₁_elim is.2 (hlevel props) (λ between. between.sound.same_position ∙ between.position)
position_is p before after caller serial (Unsurvivable by number version position state demand) is = is.3

pub outcomes_own : (outcomes : List Outcome) (o : Outcome) (caller : ℕ) → outcome_caller o ≡ caller → outcomes_of caller (outcomes ++ o ∷ []) ≡ outcomes_of caller outcomes ++ o ∷ []
outcomes_own outcomes o caller e =
    let test : (outcome_caller o == caller) ≡ true = subst (λ k. (outcome_caller o == k) ≡ true) e (eq-eqb (outcome_caller o) (outcome_caller o) refl) in
    filter-append (λ x. outcome_caller x == caller) outcomes (o ∷ []) ∙ ap (λ b. outcomes_of caller outcomes ++ cond b (o ∷ []) []) test

outcomes_other : (outcomes : List Outcome) (o : Outcome) (caller : ℕ) → outcome_caller o ≢ caller → outcomes_of caller (outcomes ++ o ∷ []) ≡ outcomes_of caller outcomes
outcomes_other outcomes o caller ne =
    filter-append (λ x. outcome_caller x == caller) outcomes (o ∷ [])
    ∙ (ap (λ b. outcomes_of caller outcomes ++ cond b (o ∷ []) []) (ne_eqb (outcome_caller o) caller ne) ∙ append-nil (outcomes_of caller outcomes))

-- ---- an edit more

module _ (p : Case) (sofar : Seen Entry) (commands : List Command) (outcomes : List Outcome) (h : HaveRun p sofar commands outcomes) (c : Command) (waited : List Entry) where
  abbrev seen : List Entry
  seen = sofar.history

  abbrev own : List Entry
  own = sofar.own

  module _ (edit : Edit) (reply : Reply) (act : c.act ≡ Change edit) (form : IsEntryOfCaller (Edited c.caller edit reply)) where
    abbrev entry : Entry
    entry = Edited c.caller edit reply

    edits_own : flat_map (edit_made c.caller) (own ++ entry ∷ []) ≡ flat_map edit_asked (acts_of c.caller (commands ++ c ∷ []))
    edits_own =
        flat_map-append (edit_made c.caller) own (entry ∷ [])
        ∙ (ap (λ xs. flat_map (edit_made c.caller) own ++ xs) (append-nil (edit_made c.caller entry) ∙ choose_same c.caller (edit ∷ []) [])
        ∙ (ap (λ xs. xs ++ edit ∷ []) (h.edits c.caller)
        ∙ sym (ap (flat_map edit_asked) (acts_own commands c)
        ∙ (flat_map-append edit_asked (acts_of c.caller commands) (c.act ∷ [])
        ∙ ap (λ a. flat_map edit_asked (acts_of c.caller commands) ++ (edit_asked a ++ [])) act))))

    edits_other : (caller : ℕ) → c.caller ≢ caller → flat_map (edit_made caller) (own ++ entry ∷ []) ≡ flat_map edit_asked (acts_of caller (commands ++ c ∷ []))
    edits_other caller ne =
        flat_map-append (edit_made caller) own (entry ∷ [])
        ∙ (ap (λ xs. flat_map (edit_made caller) own ++ xs) (append-nil (edit_made caller entry) ∙ choose_other c.caller caller (edit ∷ []) [] ne)
        ∙ (append-nil (flat_map (edit_made caller) own)
        ∙ (h.edits caller ∙ sym (ap (flat_map edit_asked) (acts_other commands c caller ne)))))

    runs_own : RunsFrom p ((seen ++ waited) ++ entry ∷ []) c.caller 0 1 (acts_of c.caller (commands ++ c ∷ [])) (outcomes_of c.caller outcomes)
    runs_own =
        subst (λ asked. RunsFrom p ((seen ++ waited) ++ entry ∷ []) c.caller 0 1 asked (outcomes_of c.caller outcomes))
        (sym (acts_own commands c ∙ ap (λ a. acts_of c.caller commands ++ a ∷ []) act))
        (run_edit p (seen ++ waited) c.caller edit reply 0 1 (acts_of c.caller commands) (outcomes_of c.caller outcomes)
        (run_later p seen waited c.caller 0 1 (acts_of c.caller commands) (outcomes_of c.caller outcomes) (h.runs c.caller)))

    runs_other : (caller : ℕ) → c.caller ≢ caller → RunsFrom p ((seen ++ waited) ++ entry ∷ []) caller 0 1 (acts_of caller (commands ++ c ∷ [])) (outcomes_of caller outcomes)
    runs_other caller ne =
        subst (λ asked. RunsFrom p ((seen ++ waited) ++ entry ∷ []) caller 0 1 asked (outcomes_of caller outcomes)) (sym (acts_other commands c caller ne))
        (run_later p (seen ++ waited) (entry ∷ []) caller 0 1 (acts_of caller commands) (outcomes_of caller outcomes)
        (run_later p seen waited caller 0 1 (acts_of caller commands) (outcomes_of caller outcomes) (h.runs caller)))

    pub edited_run : HaveRun p (record { history = (seen ++ waited) ++ entry ∷ []; own = own ++ entry ∷ [] }) (commands ++ c ∷ []) outcomes
    edited_run = record {
      edits = λ caller. ⊎_elim
          (λ (e : c.caller ≡ caller). subst (λ k. flat_map (edit_made k) (own ++ entry ∷ []) ≡ flat_map edit_asked (acts_of k (commands ++ c ∷ []))) e edits_own)
          (λ ne. edits_other caller (λ e. omega (arith, ne, e)))
          (cases_eq c.caller caller);
      runs = λ caller. ⊎_elim
          (λ (e : c.caller ≡ caller). subst (λ k. RunsFrom p ((seen ++ waited) ++ entry ∷ []) k 0 1 (acts_of k (commands ++ c ∷ [])) (outcomes_of k outcomes)) e runs_own)
          (λ ne. runs_other caller (λ e. omega (arith, ne, e)))
          (cases_eq c.caller caller);
      few =
          let few = h.few in
          let cuts = ap length (cuts_both own (entry ∷ [])) in
          omega (arith, few, cuts, length-append own (entry ∷ []), length-append commands (c ∷ []), length-append (cuts_of own) []);
      count = h.count ∙ sym (sum_by-append (λ (k : Command). cond (is_plan k) 1 0) commands (c ∷ []) ∙ plus_none (count_by is_plan commands) c edit act);
      entries = All-push IsEntryOfCaller own entry h.entries form;
      none = λ e. absurd (snoc_some commands c e);
      alone = λ is. absurd (no_plan is.command (snoc_one commands c is.command is.alone).1 is.plans);
    }
      where
        no_plan : (k : Command) → c ≡ k → k.act ≡ Plan → ⊥
        no_plan k same plan = cc (same, plan, act)

        plus_none : (n : ℕ) (k : Command) (e : Edit) → k.act ≡ Change e → n + count_by is_plan (k ∷ []) ≡ n
        plus_none n k e is = let b : is_plan k ≡ false = ap asks_plan is in rw b (omega arith)

  -- ---- a plan more

  module _ (further committed : List Entry) (among : IsPartOf committed further) (pooled : All IsCutEntry committed) (act : c.act ≡ Plan) (o : Outcome)
      (is : IsOutcomeAfter p (seen ++ waited) ((seen ++ waited) ++ further) c.caller (length (outcomes_of c.caller outcomes) + 1) o)
      (first : seen ++ waited ≡ [] → (seen ++ waited) ++ further ≡ own ++ committed → IsPlanned o → ∥ IsWorkedPool p ((seen ++ waited) ++ further) ∥₁) where
    abbrev before : List Entry
    before = seen ++ waited

    edits_same : (caller : ℕ) → flat_map (edit_made caller) (own ++ committed) ≡ flat_map edit_asked (acts_of caller commands)
    edits_same caller =
        flat_map-append (edit_made caller) own committed
        ∙ (ap (λ xs. flat_map (edit_made caller) own ++ xs) (cuts_no_edits caller committed pooled)
        ∙ (append-nil (flat_map (edit_made caller) own) ∙ h.edits caller))

    asked_same : (caller : ℕ) → flat_map edit_asked (acts_of caller (commands ++ c ∷ [])) ≡ flat_map edit_asked (acts_of caller commands)
    asked_same caller = ⊎_elim
        (λ (e : c.caller ≡ caller). subst (λ k. flat_map edit_asked (acts_of k (commands ++ c ∷ [])) ≡ flat_map edit_asked (acts_of k commands)) e
        (ap (flat_map edit_asked) (acts_own commands c)
        ∙ (flat_map-append edit_asked (acts_of c.caller commands) (c.act ∷ [])
        ∙ (ap (λ a. flat_map edit_asked (acts_of c.caller commands) ++ (edit_asked a ++ [])) act ∙ append-nil (flat_map edit_asked (acts_of c.caller commands))))))
        (λ ne. ap (flat_map edit_asked) (acts_other commands c caller (λ e. omega (arith, ne, e))))
        (cases_eq c.caller caller)

    planned_own : RunsFrom p (before ++ further) c.caller 0 1 (acts_of c.caller (commands ++ c ∷ [])) (outcomes_of c.caller (outcomes ++ o ∷ []))
    planned_own =
        let os = outcomes_of c.caller outcomes in
        let turned : length os + 1 ≡ 1 + length os = omega arith in
        subst (λ asked. RunsFrom p (before ++ further) c.caller 0 1 asked (outcomes_of c.caller (outcomes ++ o ∷ [])))
        (sym (acts_own commands c ∙ ap (λ a. acts_of c.caller commands ++ a ∷ []) act))
        (subst (λ all. RunsFrom p (before ++ further) c.caller 0 1 (acts_of c.caller commands ++ Plan ∷ []) all)
        (sym (outcomes_own outcomes o c.caller (caller_is p before (before ++ further) c.caller (length os + 1) o is)))
        (run_plan p before further c.caller 0 1 (acts_of c.caller commands) os o (run_later p seen waited c.caller 0 1 (acts_of c.caller commands) os (h.runs c.caller))
        (subst (λ k. IsOutcomeAfter p before (before ++ further) c.caller k o) turned is)))

    planned_other : (caller : ℕ) → c.caller ≢ caller → RunsFrom p (before ++ further) caller 0 1 (acts_of caller (commands ++ c ∷ [])) (outcomes_of caller (outcomes ++ o ∷ []))
    planned_other caller ne =
        let mine = caller_is p before (before ++ further) c.caller (length (outcomes_of c.caller outcomes) + 1) o is in
        subst (λ asked. RunsFrom p (before ++ further) caller 0 1 asked (outcomes_of caller (outcomes ++ o ∷ []))) (sym (acts_other commands c caller ne))
        (subst (λ all. RunsFrom p (before ++ further) caller 0 1 (acts_of caller commands) all) (sym (outcomes_other outcomes o caller (λ e. ne (sym mine ∙ e))))
        (run_later p before further caller 0 1 (acts_of caller commands) (outcomes_of caller outcomes)
        (run_later p seen waited caller 0 1 (acts_of caller commands) (outcomes_of caller outcomes) (h.runs caller))))

    -- where the entries are its own, and it had none, the plan is made before any entry
    nothing_before : own ≡ [] → before ++ further ≡ own ++ committed → before ≡ []
    nothing_before none same =
        let some = part_few committed further among in
        let own_none = ap length none in
        nil_from_length before (omega (arith, some, own_none, ap length same, length-append before further, length-append own committed))

    pub planned_run : HaveRun p (record { history = before ++ further; own = own ++ committed }) (commands ++ c ∷ []) (outcomes ++ o ∷ [])
    planned_run = record {
      edits = λ caller. edits_same caller ∙ sym (asked_same caller);
      runs = λ caller. ⊎_elim
          (λ (e : c.caller ≡ caller). subst (λ k. RunsFrom p (before ++ further) k 0 1 (acts_of k (commands ++ c ∷ [])) (outcomes_of k (outcomes ++ o ∷ []))) e planned_own)
          (λ ne. planned_other caller (λ e. omega (arith, ne, e)))
          (cases_eq c.caller caller);
      few =
          let few = h.few in
          omega (arith, few, few_more own committed pooled, length-append commands (c ∷ []));
      count =
          let count = h.count in
          let one = sum_by-append (λ (k : Command). cond (is_plan k) 1 0) commands (c ∷ []) in
          omega (arith, count, one, plus_one (count_by is_plan commands) c act, length-append outcomes (o ∷ []));
      entries = All-append IsEntryOfCaller own committed h.entries (cuts_of_callers committed pooled);
      none = λ e. absurd (snoc_some commands c e);
      alone = λ is' same planned.
          let empty_before = (snoc_one commands c is'.command is'.alone).0 in
          let count = h.count in
          let none : length outcomes ≡ 0 = count ∙ ap (count_by is_plan) empty_before in
          let nothing = nothing_before (h.none empty_before) same in (
            All-push (λ x. outcome_position x ≡ 0) outcomes o (λ k d lt. absurd (omega (arith, none, lt))) (position_is p before (before ++ further) c.caller (length (outcomes_of c.caller outcomes) + 1) o is ∙ ap length nothing),
            first nothing same (last_holds IsPlanned outcomes o planned),
          );
    }
      where
        plus_one : (n : ℕ) (k : Command) → k.act ≡ Plan → n + count_by is_plan (k ∷ []) ≡ n + 1
        plus_one n k is' = let b : is_plan k ≡ true = ap asks_plan is' in rw b (omega arith)

-- ---- a command more

-- a caller's next act, done
pub acted_run : (p : Case) (old new : Progress) (commands : List Command) (c : Command) (act : Act) → c.act ≡ act
    → outcomes_of c.caller old.outcomes ≡ old.outcomes → HaveRun p old.seen commands old.outcomes → IsCommandInForm c → HasActed p c.caller act old new
    → HaveRun p new.seen (commands ++ c ∷ []) new.outcomes
acted_run p old new commands c (Change edit) is mine h form done =
    let edited = subst IsActInForm is form.act in
    let made = done.0 in
    let history = (old.seen.history ++ made.0) ++ Edited c.caller edit made.1 ∷ [] in
    subst (λ es. HaveRun p (record { history = es; own = new.seen.own }) (commands ++ c ∷ []) new.outcomes) (sym made.2)
    (subst (λ es. HaveRun p (record { history = history; own = es }) (commands ++ c ∷ []) new.outcomes) (sym made.3)
    (subst (HaveRun p (record { history = history; own = old.seen.own ++ Edited c.caller edit made.1 ∷ [] }) (commands ++ c ∷ [])) (sym done.1)
    (edited_run p old.seen commands old.outcomes h c made.0 edit made.1 is (form.some, form.most, edited))))
acted_run p old new commands c Plan is mine h form done =
    let seen = old.seen.history in
    let own = old.seen.own in
    let now = new.seen.history in
    let o = done.0 in
    let since = done.2 in
    let waited = since.1.0 in
    let asked : Asked = record { caller = c.caller; serial = length old.outcomes + 1 } in
    let begun : since.0 ≡ seen ++ waited = sym since.1.1 in
    let at : PlansAt p asked (record { history = seen ++ waited; own = own }) new.seen (Ok o) =
    subst (λ es. PlansAt p asked (record { history = es; own = own }) new.seen (Ok o)) begun since.2 in
    let serial : length old.outcomes + 1 ≡ length (outcomes_of c.caller old.outcomes) + 1 = ap (λ os. length os + 1) (sym mine) in
    let outcome : IsOutcomeAfter p (seen ++ waited) ((seen ++ waited) ++ at.more.further) c.caller (length (outcomes_of c.caller old.outcomes) + 1) o =
    subst (λ k. IsOutcomeAfter p (seen ++ waited) ((seen ++ waited) ++ at.more.further) c.caller k o) serial
    (subst (λ es. IsOutcomeAfter p (seen ++ waited) es c.caller (length old.outcomes + 1) o) at.more.seen at.outcome) in
    let first : seen ++ waited ≡ [] → (seen ++ waited) ++ at.more.further ≡ own ++ at.more.committed → IsPlanned o → ∥ IsWorkedPool p ((seen ++ waited) ++ at.more.further) ∥₁ =
    λ none same planned. subst (λ es. ∥ IsWorkedPool p es ∥₁) at.more.seen (at.alone planned none (at.more.seen ∙ (same ∙ sym at.more.own_is))) in
    subst (λ es. HaveRun p (record { history = es; own = new.seen.own }) (commands ++ c ∷ []) new.outcomes) (sym at.more.seen)
    (subst (λ es. HaveRun p (record { history = (seen ++ waited) ++ at.more.further; own = es }) (commands ++ c ∷ []) new.outcomes) (sym at.more.own_is)
    (subst (HaveRun p (record { history = (seen ++ waited) ++ at.more.further; own = own ++ at.more.committed }) (commands ++ c ∷ [])) (sym done.1)
    (planned_run p old.seen commands old.outcomes h c waited at.more.further at.more.committed at.more.among at.more.pooled is o outcome first)))

-- before the first command
pub none_run : (p : Case) (history : List Entry) → HaveRun p (record { history = history; own = [] }) [] []
none_run p history = record {
  edits = λ caller. refl;
  runs = λ caller. omega arith;
  few = omega arith;
  count = refl;
  entries = λ k e lt. absurd (omega (arith, lt));
  none = λ e. refl;
  alone = λ one. let count = ap length one.alone in absurd (omega (arith, count));
}
