-- two groups of callers that have met
use Rattle.std.proofs.Common.{◌≡◌, ◌∙◌, ℕ, ◌<◌, ◌≤◌, ◌==◌, ⊎_elim, List, [], ◌∷◌, ◌++◌, flat_map, length, true, ap, refl, sym, subst, arith, Result, Ok, Err, Vec, append-nil, length-append}
use Rattle.net_core.proofs.Library.{filter-append, list_any}
use Rattle.plan_terms.specs.Terms.{Entry, Case}
use Rattle.plan_types.specs.declared.report.Outcome.{Outcome}
use Rattle.cut_pool.specs.Terms.{pooled_by}
use Rattle.session_script.{specs.declared.script.Act.Act, specs.declared.script.Command.Command}
use Rattle.turn_lock.{specs.Terms.{IsPrefix, are_places, merged, Seen, items_at}, proofs.Places.{prefix_le, wider}}
use Rattle.board_desk.{specs.declared.caller.Caller.Caller, specs.Turns.{caller_places, caller_seen}, proofs.Passes.{own_at, placed_in}}
use Rattle.separation_workers.proofs.Places.{items_front}
use Rattle.session_run.{specs.Transcripts.{RunsFrom, acts_of, outcome_caller, edit_asked, edit_made, outcomes_of}, specs.inner.Running.{AreBoth, AreFewOwn, EndsRun, HaveRun, IsEntryOfCaller, IsFullAt, commands_of, is_of}, specs.declared.setting.Stop.Stop, specs.declared.setting.Stop.TheVariants.{NoMemory, Full}, proofs.Dealt.{IsDealt, dealt, some_command}, proofs.Merging.{met_all, met_count, met_first, met_given, met_second}, proofs.Runs.run_later}

-- a caller that asks for nothing gets nothing
no_outcomes : (p : Case) (seen : List Entry) (caller at serial : ℕ) (os : List Outcome) → RunsFrom p seen caller at serial [] os → os ≡ []
no_outcomes p seen caller at serial [] run = refl
no_outcomes p seen caller at serial (o ∷ os) run = absurd run

-- a run stays one in a history that goes on
run_in : (p : Case) (seen h : List Entry) → IsPrefix seen h → (caller : ℕ) (acts : List Act) (os : List Outcome) → RunsFrom p seen caller 0 1 acts os → RunsFrom p h caller 0 1 acts os
run_in p seen h begins caller acts os run = subst (λ es. RunsFrom p es caller 0 1 acts os) begins.1 (run_later p seen begins.0 caller 0 1 acts os run)

-- the items at places stay the same in a history that goes on
pub items_in : {X : Type 0} (seen h : List X) (places : List ℕ) → IsPrefix seen h → are_places 0 (length seen) places ≡ true → items_at seen places ≡ items_at h places
items_in seen h places begins placed = sym (items_front seen begins.0 0 places placed) ∙ ap (λ es. items_at es places) begins.1

full_in : (seen h : List Entry) (stop : Stop) → IsPrefix seen h → IsFullAt seen stop → IsFullAt h stop
full_in seen h NoMemory begins full = tt
full_in seen h Full begins full = omega (arith, full, ap length begins.1, length-append seen begins.0)

few_of : {A : Type 0} (p : Case) (cs : List Command) (seen : Seen Entry) (ended : Result (Vec Outcome A) Stop) → EndsRun p cs seen ended → AreFewOwn seen cs
few_of p cs seen (Ok outcomes) h = h.few
few_of p cs seen (Err stop) h = h.0

module _ (p : Case) (one two all : List Command) (dealt : IsDealt one two all) (some_one : 1 ≤ length one) (some_two : 1 ≤ length two)
    (s1 s2 h : List Entry) (first : IsPrefix s1 h) (second : IsPrefix s2 h) (ps qs : List ℕ) (placed : are_places 0 (length h) qs ≡ true) where
  abbrev own1 : List Entry
  own1 = items_at h ps

  abbrev own2 : List Entry
  own2 = items_at h qs

  abbrev own : List Entry
  own = items_at h (merged ps qs)

  abbrev seen1 : Seen Entry
  seen1 = record { history = s1; own = own1 }

  abbrev seen2 : Seen Entry
  seen2 = record { history = s2; own = own2 }

  abbrev seen : Seen Entry
  seen = record { history = h; own = own }

  few_both : AreFewOwn seen1 one → AreFewOwn seen2 two → AreFewOwn seen all
  few_both a b =
      let sum = dealt.count in
      omega (arith, a, b, sum, met_count h ps qs, met_given h ps qs pooled_by)

  module _ (o1 o2 : List Outcome) (a : HaveRun p seen1 one o1) (b : HaveRun p seen2 two o2) where
    edits_both : (caller : ℕ) → flat_map (edit_made caller) own ≡ flat_map edit_asked (acts_of caller all)
    edits_both caller = ⊎_elim
        (λ d.
        let none : flat_map (edit_made caller) own1 ≡ [] = a.edits caller ∙ ap (flat_map edit_asked) d.0 in
        met_second h ps qs (edit_made caller) placed none ∙ (b.edits caller ∙ ap (flat_map edit_asked) (sym d.1)))
        (λ d.
        let none : flat_map (edit_made caller) own2 ≡ [] = b.edits caller ∙ ap (flat_map edit_asked) d.0 in
        met_first h ps qs (edit_made caller) none ∙ (a.edits caller ∙ ap (flat_map edit_asked) (sym d.1)))
        (dealt.acts caller)

    outcomes_both : (caller : ℕ) → outcomes_of caller (o1 ++ o2) ≡ outcomes_of caller o1 ++ outcomes_of caller o2
    outcomes_both caller = filter-append (λ o. outcome_caller o == caller) o1 o2

    runs_both : (caller : ℕ) → RunsFrom p h caller 0 1 (acts_of caller all) (outcomes_of caller (o1 ++ o2))
    runs_both caller = ⊎_elim
        (λ d.
        let none : outcomes_of caller o1 ≡ [] = no_outcomes p s1 caller 0 1 (outcomes_of caller o1) (subst (λ acts. RunsFrom p s1 caller 0 1 acts (outcomes_of caller o1)) d.0 (a.runs caller)) in
        let outs : outcomes_of caller (o1 ++ o2) ≡ outcomes_of caller o2 = outcomes_both caller ∙ ap (λ os. os ++ outcomes_of caller o2) none in
        subst (λ acts. RunsFrom p h caller 0 1 acts (outcomes_of caller (o1 ++ o2))) (sym d.1)
        (subst (RunsFrom p h caller 0 1 (acts_of caller two)) (sym outs) (run_in p s2 h second caller (acts_of caller two) (outcomes_of caller o2) (b.runs caller))))
        (λ d.
        let none : outcomes_of caller o2 ≡ [] = no_outcomes p s2 caller 0 1 (outcomes_of caller o2) (subst (λ acts. RunsFrom p s2 caller 0 1 acts (outcomes_of caller o2)) d.0 (b.runs caller)) in
        let outs : outcomes_of caller (o1 ++ o2) ≡ outcomes_of caller o1 = outcomes_both caller ∙ (ap (λ os. outcomes_of caller o1 ++ os) none ∙ append-nil (outcomes_of caller o1)) in
        subst (λ acts. RunsFrom p h caller 0 1 acts (outcomes_of caller (o1 ++ o2))) (sym d.1)
        (subst (RunsFrom p h caller 0 1 (acts_of caller one)) (sym outs) (run_in p s1 h first caller (acts_of caller one) (outcomes_of caller o1) (a.runs caller))))
        (dealt.acts caller)

    run_both : HaveRun p seen all (o1 ++ o2)
    run_both = record {
      edits = edits_both;
      runs = runs_both;
      few = few_both a.few b.few;
      count =
          let x = a.count in
          let y = b.count in
          let z = dealt.plans in
          omega (arith, x, y, z, length-append o1 o2);
      entries = met_all h ps qs IsEntryOfCaller a.entries b.entries;
      none = λ e. let sum = dealt.count in absurd (omega (arith, some_one, sum, ap length e));
      alone = λ is. let sum = dealt.count in let single = is.alone in absurd (omega (arith, some_one, some_two, sum, ap length single));
    }

  pub ends_both : {A : Type 0} (r1 r2 r : Result (Vec Outcome A) Stop) → AreBoth r1 r2 r → EndsRun p one seen1 r1 → EndsRun p two seen2 r2 → EndsRun p all seen r
  ends_both (Ok o1) (Ok o2) (Ok os) is a b = subst (HaveRun p seen all) (sym is) (run_both o1.items o2.items a b)
  ends_both (Ok o1) (Ok o2) (Err stop) is a b = (few_both a.few b.few, subst (IsFullAt h) (sym is) tt)
  ends_both (Ok o1) (Err s) (Ok os) is a b = absurd is
  ends_both (Ok o1) (Err s) (Err stop) is a b = (few_both a.few b.0, subst (IsFullAt h) (sym is) (full_in s2 h s second b.1))
  ends_both (Err s) r2 (Ok os) is a b = absurd is
  ends_both (Err s) r2 (Err stop) is a b = (few_both a.0 (few_of p two seen2 r2 b), subst (IsFullAt h) (sym is) (full_in s1 h s first a.1))

-- the callers of two groups have met
module _ (p : Case) (one two met : Caller) (low middle high : ℕ) (lower : low < middle) (upper : middle < high) (cs : List Command)
    (first : IsPrefix (caller_seen one).history (caller_seen met).history) (second : IsPrefix (caller_seen two).history (caller_seen met).history)
    (places : caller_places met ≡ merged (caller_places one) (caller_places two)) where
  pub callers_met : {A : Type 0} (r1 r2 r : Result (Vec Outcome A) Stop) → list_any (is_of low middle) cs ≡ true → list_any (is_of middle high) cs ≡ true → AreBoth r1 r2 r
      → EndsRun p (commands_of low middle cs) (caller_seen one) r1 → EndsRun p (commands_of middle high cs) (caller_seen two) r2
      → EndsRun p (commands_of low high cs) (caller_seen met) r
  callers_met r1 r2 r some_one some_two both a b =
      let s1 = (caller_seen one).history in
      let s2 = (caller_seen two).history in
      let h = (caller_seen met).history in
      let in_one = own_at one.pass ∙ items_in s1 h (caller_places one) first (placed_in one.pass) in
      let in_two = own_at two.pass ∙ items_in s2 h (caller_places two) second (placed_in two.pass) in
      let in_met : (caller_seen met).own ≡ items_at h (merged (caller_places one) (caller_places two)) = own_at met.pass ∙ ap (items_at h) places in
      let within = wider 0 0 (length s2) (length h) (caller_places two) (omega arith) (prefix_le s2 h second) (placed_in two.pass) in
      subst (λ es. EndsRun p (commands_of low high cs) (record { history = h; own = es }) r) (sym in_met)
      (ends_both p (commands_of low middle cs) (commands_of middle high cs) (commands_of low high cs) (dealt low middle high lower upper cs)
      (some_command (is_of low middle) cs some_one) (some_command (is_of middle high) cs some_two)
      s1 s2 h first second (caller_places one) (caller_places two) within r1 r2 r both
      (subst (λ es. EndsRun p (commands_of low middle cs) (record { history = s1; own = es }) r1) in_one a)
      (subst (λ es. EndsRun p (commands_of middle high cs) (record { history = s2; own = es }) r2) in_two b))
