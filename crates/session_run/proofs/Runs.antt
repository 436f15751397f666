-- a caller's run while the journal grows
use Rattle.std.{proofs.Common.{◌≡◌, ℕ, suc, ◌+◌, ◌≤◌, List, [], ◌∷◌, ◌++◌, length, length-append, take, refl, sym, ap, subst, ◌∙◌, arith}, proofs.lemmas.List.take-append-le}
use Rattle.plan_terms.specs.Terms.{Edit, Entry, Edited, Reply, Case}
use Rattle.plan_types.specs.declared.report.Outcome.{Outcome}
use Rattle.session_script.{specs.declared.script.Act.Act, specs.declared.script.Act.TheVariants.{Change, Plan}}
use Rattle.net_core.proofs.Lists.{get_front}
use Rattle.planner.proofs.Histories.{get_after}
use Rattle.session_run.specs.Transcripts.{IsOutcomeAfter, RunsFrom}

module _ (p : Case) (es more : List Entry) (caller : ℕ) where
  outcome_later : (serial n m : ℕ) (o : Outcome) → n ≤ m → m ≤ length es → IsOutcomeAfter p (take n es) (take m es) caller serial o → IsOutcomeAfter p (take n (es ++ more)) (take m (es ++ more)) caller serial o
  outcome_later serial n m o le lm is =
      let one = sym (take-append-le n es more (omega (arith, le, lm))) in
      let two = sym (take-append-le m es more lm) in
      subst (λ xs. IsOutcomeAfter p xs (take m (es ++ more)) caller serial o) one (subst (λ xs. IsOutcomeAfter p (take n es) xs caller serial o) two is)

  -- a run stays one
  pub run_later : (at serial : ℕ) (acts : List Act) (os : List Outcome) → RunsFrom p es caller at serial acts os → RunsFrom p (es ++ more) caller at serial acts os
  run_later at serial [] [] h = omega (arith, h, length-append es more)
  run_later at serial [] (o ∷ os) h = absurd h
  run_later at serial (Change edit ∷ acts) os h =
      (h.0, h.1, h.2, get_front es more h.0 (Edited caller edit h.1) h.3, run_later (h.0 + 1) serial acts os h.4)
  run_later at serial (Plan ∷ acts) [] h = absurd h
  run_later at serial (Plan ∷ acts) (o ∷ os) h =
      (h.0, h.1, h.2, h.3, omega (arith, h.4, length-append es more), outcome_later serial h.0 h.1 o h.3 h.4 h.5, run_later h.1 (serial + 1) acts os h.6)

  -- a run goes on with a plan of what the entries leave, whose cuts are the further ones
  pub run_plan : (at serial : ℕ) (acts : List Act) (os : List Outcome) (o : Outcome) → RunsFrom p es caller at serial acts os
      → IsOutcomeAfter p es (es ++ more) caller (serial + length os) o → RunsFrom p (es ++ more) caller at serial (acts ++ Plan ∷ []) (os ++ o ∷ [])
  run_plan at serial [] [] o h is =
      let all = length-append es more in
      let before : es ≡ take (length es) (es ++ more) = sym (take-append-le (length es) es more (omega arith) ∙ whole es) in
      let after : es ++ more ≡ take (length (es ++ more)) (es ++ more) = sym (whole (es ++ more)) in
      let same : serial + 0 ≡ serial = omega arith in (
        length es,
        length (es ++ more),
        h,
        omega (arith, all),
        omega arith,
        subst (λ k. IsOutcomeAfter p (take (length es) (es ++ more)) (take (length (es ++ more)) (es ++ more)) caller k o) same
            (subst (λ xs. IsOutcomeAfter p xs (take (length (es ++ more)) (es ++ more)) caller (serial + 0) o) before
            (subst (λ xs. IsOutcomeAfter p es xs caller (serial + 0) o) after is)),
        omega arith,
      )
    where
      whole : {X : Type 0} (xs : List X) → take (length xs) xs ≡ xs
      whole [] = refl
      whole (x ∷ xs) = ap (λ ys. x ∷ ys) (whole xs)
  run_plan at serial [] (q ∷ os) o h is = absurd h
  run_plan at serial (Change edit ∷ acts) os o h is =
      (h.0, h.1, h.2, get_front es more h.0 (Edited caller edit h.1) h.3, run_plan (h.0 + 1) serial acts os o h.4 is)
  run_plan at serial (Plan ∷ acts) [] o h is = absurd h
  run_plan at serial (Plan ∷ acts) (q ∷ os) o h is =
      let same : serial + suc (length os) ≡ serial + 1 + length os = omega arith in (
        h.0,
        h.1,
        h.2,
        h.3,
        omega (arith, h.4, length-append es more),
        outcome_later serial h.0 h.1 q h.3 h.4 h.5,
        run_plan h.1 (serial + 1) acts os o h.6 (subst (λ k. IsOutcomeAfter p es (es ++ more) caller k o) same is),
      )

-- a run goes on with an edit, which is the next entry
pub run_edit : (p : Case) (es : List Entry) (caller : ℕ) (edit : Edit) (reply : Reply) (at serial : ℕ) (acts : List Act) (os : List Outcome)
    → RunsFrom p es caller at serial acts os → RunsFrom p (es ++ Edited caller edit reply ∷ []) caller at serial (acts ++ Change edit ∷ []) os
run_edit p es caller edit reply at serial [] [] h =
    (length es, reply, h, get_after es (Edited caller edit reply) [], omega (arith, length-append es (Edited caller edit reply ∷ [])))
run_edit p es caller edit reply at serial [] (o ∷ os) h = absurd h
run_edit p es caller edit reply at serial (Change other ∷ acts) os h =
    (h.0, h.1, h.2, get_front es (Edited caller edit reply ∷ []) h.0 (Edited caller other h.1) h.3, run_edit p es caller edit reply (h.0 + 1) serial acts os h.4)
run_edit p es caller edit reply at serial (Plan ∷ acts) [] h = absurd h
run_edit p es caller edit reply at serial (Plan ∷ acts) (o ∷ os) h = (
  h.0,
  h.1,
  h.2,
  h.3,
  omega (arith, h.4, length-append es (Edited caller edit reply ∷ [])),
  outcome_later p es (Edited caller edit reply ∷ []) caller serial h.0 h.1 o h.3 h.4 h.5,
  run_edit p es caller edit reply h.1 (serial + 1) acts os h.6,
)
