-- histories that a separator has seen, as they grow, and the spots of cuts in them
use Rattle.std.proofs.Common.{◌≡◌, ◌≢◌, ℕ, zero, suc, ◌<◌, ◌≤◌, ⊎_elim, List, [], ◌∷◌, ◌++◌, AllPairs, Some, length, take, slice_get, refl, sym, ap, subst, ◌∙◌, arith, append_assoc, append-nil, length-append}
use Rattle.net_core.{proofs.Library.all_pairs_push, specs.declared.instance.Instance.Instance}
use Rattle.plan_terms.specs.Terms.{Entry, Edited, Pooled, CutLine, Case, case_of}
use Rattle.plan_types.specs.declared.certificate.Spot.{Spot}
use Rattle.cut_pool.specs.Terms.{IsLegalAfter, cut_of_line, cuts_of}
use Rattle.turn_lock.specs.Passes.{Seen}
use Rattle.separator.{specs.Separators.{Frame, IsCutEntry, IsSpotIn}, proofs.Lemmas.{cuts_both, get_more, sees_both, sees_none, spot_later}}
use Rattle.plan_rounds.{specs.WorkedRounds.StandAtSpots, specs.inner.Listing.{AreListed, GoesOn, IsPlanning}, specs.declared.candidates.Candidates.Candidates}

-- ---- some more entries

pub goes_none : {M : Type 0} (frame : Frame M) (seen : Seen Entry) → GoesOn frame frame seen seen
goes_none frame seen = record { same = refl; more = sees_none seen }

pub goes_both : {M : Type 0} (f0 f1 f2 : Frame M) (s0 s1 s2 : Seen Entry) → GoesOn f0 f1 s0 s1 → GoesOn f1 f2 s1 s2 → GoesOn f0 f2 s0 s2
goes_both f0 f1 f2 s0 s1 s2 a b = record { same = b.same ∙ a.same; more = sees_both s0 s1 s2 a.more b.more }

-- with a list that is listed for what has been seen by now
pub planning_on : {M : Type 0} (i : Instance) (f0 f1 : Frame M) (s0 s1 : Seen Entry) (c0 c1 : Candidates) → IsPlanning i f0 s0 c0 → GoesOn f0 f1 s0 s1 → ∥ AreListed (case_of i) s1.history c1 ∥₁ → IsPlanning i f1 s1 c1
planning_on i f0 f1 s0 s1 c0 c1 is on listed = record {
  network = is.network ∙ ap (λ f. f.network) (sym on.same);
  states = is.states ∙ ap (λ f. f.states) (sym on.same);
  listed = listed;
}

-- ---- spots are kept

pub stand_later : (h f : List Entry) (lines : List CutLine) (spots : List Spot) → length (h ++ f) ≤ 65536 → length (cuts_of (h ++ f)) ≤ 4096 → StandAtSpots h lines spots → StandAtSpots (h ++ f) lines spots
stand_later h f lines spots few few_cuts s = record {
  count = s.count;
  each = λ i line spot one two. spot_later h f (cut_of_line line) spot few few_cuts (s.each i line spot one two);
}

-- one line more
pub stand_more : (h : List Entry) (lines : List CutLine) (spots : List Spot) (line : CutLine) (spot : Spot) → StandAtSpots h lines spots → IsSpotIn h (cut_of_line line) spot → StandAtSpots h (lines ++ line ∷ []) (spots ++ spot ∷ [])
stand_more h lines spots line spot s at = record {
  count = let same = s.count in omega (arith, same, length-append lines (line ∷ []), length-append spots (spot ∷ []));
  each = λ i l x one two. ⊎_elim
      (λ (before : (i < length lines) × (slice_get lines i ≡ Some l)). ⊎_elim
      (λ (front : (i < length spots) × (slice_get spots i ≡ Some x)). s.each i l x before.1 front.1)
      (λ (last : (i ≡ length spots) × (spot ≡ x)). absurd (let same = s.count in omega (arith, before.0, last.0, same)))
      (get_more spots spot i x two))
      (λ (last : (i ≡ length lines) × (line ≡ l)). ⊎_elim
      (λ (front : (i < length spots) × (slice_get spots i ≡ Some x)). absurd (let same = s.count in omega (arith, front.0, last.0, same)))
      (λ (both : (i ≡ length spots) × (spot ≡ x)). subst (λ (y : CutLine). IsSpotIn h (cut_of_line y) x) last.1 (subst (IsSpotIn h (cut_of_line line)) both.1 at))
      (get_more spots spot i x two))
      (get_more lines line i l one);
}

-- ---- the cuts that a history pools are all different

module _ (q : Case) where
  differ_on : (before after : List Entry) → ((n : ℕ) (e : Entry) → slice_get after n ≡ Some e → IsCutEntry e → IsLegalAfter q (before ++ take n after) e)
      → AllPairs (λ a b. a ≢ b) (cuts_of before) → (m : ℕ) → AllPairs (λ a b. a ≢ b) (cuts_of (before ++ take m after))
  differ_on before [] legal different m = subst (λ es. AllPairs (λ a b. a ≢ b) (cuts_of es)) (sym (ends m)) different
    where
      ends : (m : ℕ) → before ++ take m [] ≡ before
      ends zero = append-nil before
      ends (suc m) = append-nil before
  differ_on before (e ∷ es) legal different zero = subst (λ es. AllPairs (λ a b. a ≢ b) (cuts_of es)) (sym (append-nil before)) different
  differ_on before (e ∷ es) legal different (suc m) =
      subst (λ xs. AllPairs (λ a b. a ≢ b) (cuts_of xs)) (append_assoc before (e ∷ []) (take m es))
      (differ_on (before ++ e ∷ []) es
      (λ n x at is. subst (λ xs. IsLegalAfter q xs x) (sym (append_assoc before (e ∷ []) (take n es))) (legal (suc n) x at is))
      (one_more e (λ is. subst (λ xs. IsLegalAfter q xs e) (append-nil before) (legal 0 e refl is)))
      m)
    where
      one_more : (e : Entry) → (IsCutEntry e → IsLegalAfter q before e) → AllPairs (λ a b. a ≢ b) (cuts_of (before ++ e ∷ []))
      one_more (Edited caller edit reply) is = subst (AllPairs (λ a b. a ≢ b)) (sym (cuts_both before (Edited caller edit reply ∷ []) ∙ append-nil (cuts_of before))) different
      one_more (Pooled index state lengths) is = subst (AllPairs (λ a b. a ≢ b)) (sym (cuts_both before (Pooled index state lengths ∷ [])))
          (all_pairs_push (λ a b. a ≢ b) (cuts_of before) (state.0, lengths) different (is tt).2)

  pub cuts_differ : (history : List Entry) → ((n : ℕ) (e : Entry) → slice_get history n ≡ Some e → IsCutEntry e → IsLegalAfter q (take n history) e) → (m : ℕ) → AllPairs (λ a b. a ≢ b) (cuts_of (take m history))
  cuts_differ history legal m = differ_on [] history legal (λ i j d ij lj. absurd (omega (arith, lj))) m
