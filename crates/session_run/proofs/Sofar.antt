-- a caller's commands, one after another
use Rattle.std.proofs.Common.{◌≡◌, ◌∙◌, ℕ, ◌+◌, ◌<◌, ◌≤◌, List, [], ◌∷◌, ◌++◌, All, ap, get_or, length, refl, subst, sym, take, arith, length-append}
use Rattle.plan_terms.specs.Terms.{Entry, Case}
use Rattle.plan_types.specs.declared.report.Outcome.{Outcome}
use Rattle.cut_pool.specs.Terms.{opening_case, cuts_of}
use Rattle.session_script.{specs.declared.script.Act.Act, specs.declared.script.Act.TheVariants.{Change, Plan}, specs.declared.script.Command.Command, specs.Terms.IsCommandInForm}
use Rattle.turn_lock.specs.Passes.{Seen, items_at, opening_of}
use Rattle.board_desk.{specs.declared.caller.Caller.Caller, specs.Turns.{IsSameCaller, caller_seen}, proofs.Passes.own_at}
use Rattle.session_run.{specs.Transcripts.outcomes_of, specs.declared.setting.Setting.Setting, specs.inner.Running.{AreFewOwn, CanRun, HaveRun, IsFullAt, case_made, commands_of}, specs.inner.Turns.{HasActed, HasStopped, Progress, progress_of}, specs.declared.setting.Stop.Stop, proofs.Dealt.{next_other, next_own}, proofs.Steps.{acted_run, caller_is, few_more, none_run, outcomes_own}, proofs.Turns.same_both}

-- the first of a caller's commands have run
pub record RanSoFar (first now : Caller) (cs : List Command) (i : ℕ) (outs : List Outcome) : Type 0 where
  pub same : IsSameCaller first now
  pub few : length outs ≤ i
  pub mine : outcomes_of first.number outs ≡ outs
  pub run : HaveRun (case_made first) (caller_seen now) (commands_of first.number (first.number + 1) (take i cs)) outs

-- none has run at first
pub begun : (s : Setting) (first : Caller) (cs : List Command) → CanRun s first → RanSoFar first first cs 0 []
begun s first cs ready = record {
  same = record { own = ready.of.own; desk = refl; number = refl; units = refl };
  few = omega arith;
  mine = refl;
  run = subst (λ es. HaveRun (case_made first) (record { history = (caller_seen first).history; own = es }) [] [])
      (sym (own_at first.pass ∙ ap (items_at (caller_seen first).history) ready.none)) (none_run (case_made first) (caller_seen first).history);
}

-- one outcome more at most, and all are the caller's
acted_outcomes : (p : Case) (k : ℕ) (act : Act) (old new : Progress) → outcomes_of k old.outcomes ≡ old.outcomes
    → HasActed p k act old new → (length new.outcomes ≤ length old.outcomes + 1) × (outcomes_of k new.outcomes ≡ new.outcomes)
acted_outcomes p k (Change edit) old new mine done =
    (omega (arith, ap length done.1), subst (λ os. outcomes_of k os ≡ os) (sym done.1) mine)
acted_outcomes p k Plan old new mine done =
    let o = done.0 in
    let since = done.2 in
    let by = caller_is p since.0 new.seen.history k (length old.outcomes + 1) o since.2.outcome in (
      omega (arith, ap length done.1, length-append old.outcomes (o ∷ [])),
      subst (λ os. outcomes_of k os ≡ os) (sym done.1) (outcomes_own old.outcomes o k by ∙ ap (λ os. os ++ o ∷ []) mine),
    )

module _ (first now : Caller) (cs : List Command) (i : ℕ) (c : Command) (outs : List Outcome) (lt : i < length cs) (is : c ≡ get_or cs i c) (ran : RanSoFar first now cs i outs) where
  abbrev k : ℕ
  k = first.number

  pub acted_on : (next : Caller) (after : List Outcome) → All IsCommandInForm cs → c.caller ≡ k → IsSameCaller now next
      → HasActed (case_made now) c.caller c.act (progress_of now outs) (progress_of next after)
      → RanSoFar first next cs (i + 1) after
  acted_on next after each own same done =
      let p = case_made first in
      let acted : HasActed p c.caller c.act (progress_of now outs) (progress_of next after) =
      subst (λ d. HasActed (opening_case (opening_of d)) c.caller c.act (progress_of now outs) (progress_of next after)) ran.same.desk done in
      let mine : outcomes_of c.caller outs ≡ outs = subst (λ x. outcomes_of x outs ≡ outs) (sym own) ran.mine in
      let form : IsCommandInForm c = subst IsCommandInForm (sym is) (each i c lt) in
      let more = acted_outcomes p c.caller c.act (progress_of now outs) (progress_of next after) mine acted in
      record {
        same = same_both first now next ran.same same;
        few = omega (arith, ran.few, more.0);
        mine = subst (λ x. outcomes_of x after ≡ after) own more.1;
        run = subst (λ l. HaveRun p (caller_seen next) l after) (sym (next_own k cs i c lt is own))
            (acted_run p (progress_of now outs) (progress_of next after) (commands_of k (k + 1) (take i cs)) c c.act refl mine ran.run form acted);
      }

  pub passed_over : (c.caller ≡ k → ⊥) → RanSoFar first now cs (i + 1) outs
  passed_over other = record {
    same = ran.same;
    few = omega (arith, ran.few);
    mine = ran.mine;
    run = subst (λ l. HaveRun (case_made first) (caller_seen now) l outs) (sym (next_other k cs i c lt is other)) ran.run;
  }

-- a caller that stops has few entries beside pooled cuts
pub stopped_few : (p : Case) (old new : Seen Entry) (cs all : List Command) (outs : List Outcome) (stop : Stop) → HaveRun p old cs outs → length cs ≤ length all → HasStopped old new stop
    → AreFewOwn new all × IsFullAt new.history stop
stopped_few p old new cs all outs stop h le st =
    let few = h.few in
    (omega (arith, few, le, few_more old.own st.more st.pooled, ap length st.own_is, ap (λ es. length (cuts_of es)) st.own_is), st.full)
