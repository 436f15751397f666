-- the cuts of a legal history are kept, and all different
use Rattle.std.proofs.Common.{◌≢◌, ℕ, zero, suc, ◌≤◌, ◌++◌, List, [], ◌∷◌, All, AllPairs, length, get_or, take, take-suc, sym, subst, arith, ◌∙◌, append-nil}
use Rattle.net_core.proofs.Library.{take-length, flat_map-append, All-push, all_pairs_push, slice_get-get_or}
use Rattle.plan_terms.specs.Terms.{Entry, Edited, Pooled, Case, graph_in, AreKept}
use Rattle.cut_pool.specs.Terms.{IsLegalAfter, IsLegalHistory, cuts_of, pooled_by}

module _ (p : Case) where
  -- kept lengths, all different
  pub record AreSoundCuts (cuts : List (ℕ × List ℕ)) : Type 0 where
    pub kept : All (λ c. AreKept (graph_in p c.0) c.1) cuts
    pub different : AllPairs (λ a b. a ≢ b) cuts

  one_more : (before : List Entry) (e : Entry) → IsLegalAfter p before e → AreSoundCuts (cuts_of before) → AreSoundCuts (cuts_of (before ++ e ∷ []))
  one_more before (Edited caller edit reply) legal sound = subst AreSoundCuts (sym (flat_map-append pooled_by before (Edited caller edit reply ∷ []) ∙ append-nil (cuts_of before))) sound
  one_more before (Pooled index state lengths) legal sound =
      subst AreSoundCuts (sym (flat_map-append pooled_by before (Pooled index state lengths ∷ [])))
      (record {
        kept = All-push (λ c. AreKept (graph_in p c.0) c.1) (cuts_of before) (state.0, lengths) sound.kept legal.1;
        different = all_pairs_push (λ a b. a ≢ b) (cuts_of before) (state.0, lengths) sound.different legal.2;
      })

  so_far : (entries : List Entry) → IsLegalHistory p entries → (n : ℕ) → n ≤ length entries → AreSoundCuts (cuts_of (take n entries))
  so_far entries legal zero le = record { kept = λ i d lt. absurd (omega (arith, lt)); different = λ i j d lt inside. absurd (omega (arith, inside)) }
  so_far [] legal (suc n) le = absurd (omega arith)
  so_far (x ∷ xs) legal (suc n) le =
      let e = get_or (x ∷ xs) n x in
      subst (λ (es : List Entry). AreSoundCuts (cuts_of es)) (sym (take-suc (x ∷ xs) n x (omega arith)))
      (one_more (take n (x ∷ xs)) e (legal n e (slice_get-get_or (x ∷ xs) n x (omega arith))) (so_far (x ∷ xs) legal n (omega arith)))

  pub history_cuts : (entries : List Entry) → IsLegalHistory p entries → AreSoundCuts (cuts_of entries)
  history_cuts entries legal = subst (λ (es : List Entry). AreSoundCuts (cuts_of es)) (take-length entries) (so_far entries legal (length entries) (omega arith))
