-- the report of one plan command
use Rattle.std.proofs.Common.{◌≡◌, ◌≢◌, ◌∙◌, ℕ, zero, suc, ◌≤◌, ◌==◌, ◌++◌, List, [], ◌∷◌, cond, flat_map, if◌then◌else◌, length, refl, take, sym, ap, subst, ⊎_elim, Bool, true, false, eq-eqb, ne_eqb}
use Rattle.net_core.proofs.Library.{cases_eq}
use Rattle.plan_terms.specs.Terms.{StateId, Entry, Edited, Pooled, Notes, Case}
use Rattle.plan_report.specs.Terms.{Plan, Outcome, Planned, Unsurvivable, Report}
use Rattle.cut_pool.specs.Terms.{Dated, demands_left, left_by}
use Rattle.acceptance.specs.Terms.{IsOutcomeAfter, IsSeparationOf, IsTranscript, RunsFrom, acts_of, outcome_caller, edit_asked, edit_made, outcomes_of}
use Rattle.plan_reports.specs.LonePlans.{plan_commands}
use Rattle.session_script.specs.declared.script.Act.TheVariants as acts

-- ---- callers

none_else : (caller : ℕ) → 1 ≢ caller → acts_of caller plan_commands ≡ []
none_else caller other = ap (λ b. (if b then acts.Plan ∷ [] else []) ++ []) (ne_eqb 1 caller other)

asks_no_edit : (b : Bool) → flat_map edit_asked ((if b then acts.Plan ∷ [] else []) ++ []) ≡ []
asks_no_edit true = refl
asks_no_edit false = refl

-- ---- journals without edits

not_nothing : {X : Type 0} (x : X) (xs : List X) → x ∷ xs ≡ [] → ⊥
not_nothing x xs same = cc same

unedited : (nodes : List (List ℕ)) (d : Dated) (es : List Entry) → ((caller : ℕ) → flat_map (edit_made caller) es ≡ []) → (n : ℕ) → left_by nodes d (take n es) ≡ d
unedited nodes d es none zero = refl
unedited nodes d [] none (suc n) = refl
unedited nodes d (Edited by edit reply ∷ es) none (suc n) =
    absurd (not_nothing edit (flat_map (edit_made by) es) (sym (ap (λ b. (if b then edit ∷ [] else []) ++ flat_map (edit_made by) es) (eq-eqb by by refl)) ∙ none by))
unedited nodes d (Pooled index state lengths ∷ es) none (suc n) = unedited nodes d es none n

-- ---- the one outcome

module _ (p : Case) (es : List Entry) where
  -- an outcome at its place
  pub record IsAlone (o : Outcome) : Type 0 where
    pub n : ℕ
    pub m : ℕ
    pub within : n ≤ m
    pub last : m ≤ length es
    pub is : IsOutcomeAfter p (take n es) (take m es) 1 1 o

  -- a caller's run, if the caller asks for nothing
  idle : (caller : ℕ) (os : List Outcome) → 1 ≢ caller → RunsFrom p es caller 0 1 (acts_of caller plan_commands) os → os ≡ []
  idle caller [] other run = refl
  idle caller (o ∷ os) other run = absurd (subst (λ asked. RunsFrom p es caller 0 1 asked (o ∷ os)) (none_else caller other) run)

  first_kept : (caller : ℕ) (o : Outcome) (os : List Outcome) → outcome_caller o ≡ caller → outcomes_of caller (o ∷ os) ≡ o ∷ outcomes_of caller os
  first_kept caller o os is = ap (λ b. cond b (o ∷ outcomes_of caller os) (outcomes_of caller os)) (eq-eqb (outcome_caller o) caller is)

  first_left : (caller : ℕ) (o : Outcome) (os : List Outcome) → outcome_caller o ≢ caller → outcomes_of caller (o ∷ os) ≡ outcomes_of caller os
  first_left caller o os other = ap (λ b. cond b (o ∷ outcomes_of caller os) (outcomes_of caller os)) (ne_eqb (outcome_caller o) caller other)

  abbrev AllRun : List Outcome → Type 0
  AllRun os = (caller : ℕ) → RunsFrom p es caller 0 1 (acts_of caller plan_commands) (outcomes_of caller os)

  -- each outcome is of caller 1
  of_first : (o : Outcome) (os : List Outcome) → AllRun (o ∷ os) → outcome_caller o ≡ 1
  of_first o os runs = ⊎_elim
      (λ is. is)
      (λ other.
      let caller = outcome_caller o in
      absurd (not_nothing o (outcomes_of caller os) (sym (first_kept caller o os refl) ∙ idle caller (outcomes_of caller (o ∷ os)) (λ same. other (sym same)) (runs caller))))
      (cases_eq (outcome_caller o) 1)

  -- what follows the outcome of caller 1 is no outcome of caller 1
  rest_of : (at serial : ℕ) (os : List Outcome) → RunsFrom p es 1 at serial [] os → os ≡ []
  rest_of at serial [] run = refl
  rest_of at serial (o ∷ os) run = absurd run

  -- and none of another
  no_rest : (o : Outcome) (os : List Outcome) → AllRun (o ∷ os) → outcome_caller o ≡ 1 → outcomes_of 1 os ≡ [] → os ≡ []
  no_rest o [] runs one none = refl
  no_rest o (q ∷ os) runs one none = ⊎_elim
      (λ is. absurd (not_nothing q (outcomes_of 1 os) (sym (first_kept 1 q os is) ∙ none)))
      (λ other.
      let caller = outcome_caller q in
      absurd (not_nothing q (outcomes_of caller os) (sym (first_left caller o (q ∷ os) (λ same. other (sym same ∙ one)) ∙ first_kept caller q os refl) ∙ idle caller (outcomes_of caller (o ∷ q ∷ os)) (λ same. other (sym same)) (runs caller))))
      (cases_eq (outcome_caller q) 1)

  -- there is one outcome
  pub alone : (os : List Outcome) → AllRun os → (o : Outcome) × (os ≡ o ∷ []) × IsAlone o
  alone [] runs = absurd (runs 1)
  alone (o ∷ os) runs =
      let one = of_first o os runs in
      let run = subst (RunsFrom p es 1 0 1 (acts.Plan ∷ [])) (first_kept 1 o os one) (runs 1) in (
        o,
        ap (λ rest. o ∷ rest) (no_rest o os runs one (rest_of run.1 2 (outcomes_of 1 os) run.6)),
        record { n = run.0; m = run.1; within = run.3; last = run.4; is = run.5 },
      )

-- the report of one plan command has one outcome, for the opening demands
module _ (p : Case) (notes : Notes) (r : Report) (t : IsTranscript p notes plan_commands r) where
  pub unmoved : (n : ℕ) → demands_left p (take n r.entries) ≡ p.demands
  unmoved n = ap (λ (d : Dated). d.demands) (unedited p.nodes (record { demands = p.demands; version = 0 }) r.entries (λ caller. t.edits caller ∙ asks_no_edit (1 == caller)) n)

  one : (o : Outcome) × (r.outcomes ≡ o ∷ []) × IsAlone p r.entries o
  one = alone p r.entries r.outcomes t.runs

  -- it is this one
  is_one : (o : Outcome) → r.outcomes ≡ o ∷ [] → IsAlone p r.entries o
  is_one o same = let found = one in subst (IsAlone p r.entries) (let there = found.1 in cc (there, same)) found.2

  pub refused : (by serial version position : ℕ) (state : StateId) (name : List ℕ) → r.outcomes ≡ Unsurvivable by serial version position state name ∷ [] → IsSeparationOf p state.0 name
  refused by serial version position state name same =
      let found = is_one (Unsurvivable by serial version position state name) same in
      subst (λ ds. IsSeparationOf (record { nodes = p.nodes; links = p.links; listed = p.listed; demands = ds; places = p.places }) state.0 name) (unmoved found.n) found.is.4

  pub planned : (by serial : ℕ) (plan : Plan) → r.outcomes ≡ Planned by serial plan ∷ [] → r.outcomes ≡ Planned 1 1 plan ∷ []
  planned by serial plan same =
      let found = is_one (Planned by serial plan) same in
      same ∙ ap (λ o. o ∷ []) (let caller = found.is.0 in let number = found.is.1 in cc (caller, number))

  -- there is one outcome
  pub has_one : (o : Outcome) × (r.outcomes ≡ o ∷ [])
  has_one = let found = one in (found.0, found.1)
