-- one demand and one state after another
use Rattle.std.proofs.Common.{◌≡◌, ◌≢◌, ℕ, ◌+◌, ◌≤◌, ◌<◌, ◌⊎◌, inl, inr, ⊎_elim, List, [], ◌∷◌, ◌++◌, All, Contains, arith, length, refl, subst, sym}
use Rattle.net_core.proofs.Library.{All-weaker, all_pairs_push, cases_eq, slice_get_within, All-push, Contains-append_left, Contains-append_right, Contains-get_or}
use Rattle.plan_terms.specs.Terms.{Case, Separates}
use Rattle.failure_states.specs.declared.separations.Separation.{Separation}
use Rattle.failure_texts.{specs.AllSeparations.{AreSeparations, ComesBefore, IsEarlier}, specs.inner.SeparationsSoFar.AreSeparationsBefore}

abbrev separation_at : ℕ → ℕ → Separation
separation_at s k = record { state = record { 0 = s }; demand = k }

-- before any state and demand there is none
pub none_before : (p : Case) → AreSeparationsBefore p 0 0 []
none_before p = record {
  each = λ i d lt. absurd (omega (arith, lt));
  all = λ t j before sep. absurd (⊎_elim (λ (lt : t < 0). omega (arith, lt)) (λ (e : (t ≡ 0) × (j < 0)). let low = e.1 in omega (arith, low)) before);
  order = λ i j d lt inside. absurd (omega (arith, inside));
}

module _ (p : Case) (s k : ℕ) (found : List Separation) (was : AreSeparationsBefore p s k found) where
  -- what comes before the next demand
  abbrev IsNext : Separation → Type 0
  IsNext x = (x.state.0 ≤ length p.listed) × ComesBefore x.state.0 x.demand s (k + 1) × Separates p x.state.0 x.demand

  still_before : All IsNext found
  still_before = All-weaker (λ x. (x.state.0 ≤ length p.listed) × ComesBefore x.state.0 x.demand s k × Separates p x.state.0 x.demand) IsNext
      (λ x is. (is.0, ⊎_elim (λ (lt : x.state.0 < s). inl lt) (λ (e : (x.state.0 ≡ s) × (x.demand < k)). let low = e.1 in inr (e.0, omega (arith, low))) is.1, is.2)) found was.each

  -- one that comes before the next demand is this one, or comes before it
  this_or_before : (t j : ℕ) → ComesBefore t j s (k + 1) → ComesBefore t j s k ⊎ ((t ≡ s) × (j ≡ k))
  this_or_before t j before = ⊎_elim
      (λ (lt : t < s). inl (inl lt))
      (λ (e : (t ≡ s) × (j < k + 1)). ⊎_elim
      (λ (same : j ≡ k). inr (e.0, same))
      (λ (other : j ≢ k). let low = e.1 in inl (inr (e.0, omega (arith, low, other))))
      (cases_eq j k))
      before

  -- the state separates the demand, which comes last
  module _ (low : s ≤ length p.listed) (sep : Separates p s k) where
    itself : Contains (separation_at s k ∷ []) (separation_at s k)
    itself = Contains-get_or (separation_at s k ∷ []) 0 (separation_at s k) (omega arith)

    pub pushed_before : AreSeparationsBefore p s (k + 1) (found ++ separation_at s k ∷ [])
    pushed_before = record {
      each = All-push IsNext found (separation_at s k) still_before (low, inr (refl, omega arith), sep);
      all = λ t j before other. ⊎_elim
          (λ (earlier : ComesBefore t j s k). Contains-append_left found (separation_at s k ∷ []) (separation_at t j) (was.all t j earlier other))
          (λ (same : (t ≡ s) × (j ≡ k)). Contains-append_right found (separation_at s k ∷ []) (separation_at t j)
          (subst (λ (y : ℕ). Contains (separation_at s k ∷ []) (separation_at t y)) (sym same.1)
          (subst (λ (x : ℕ). Contains (separation_at s k ∷ []) (separation_at x k)) (sym same.0) itself)))
          (this_or_before t j before);
      order = all_pairs_push IsEarlier found (separation_at s k) was.order (λ i d lt. (was.each i d lt).1);
    }

  -- it doesn't
  pub passed_before : (Separates p s k → ⊥) → AreSeparationsBefore p s (k + 1) found
  passed_before none = record {
    each = still_before;
    all = λ t j before other. ⊎_elim
        (λ (earlier : ComesBefore t j s k). was.all t j earlier other)
        (λ (same : (t ≡ s) × (j ≡ k)). absurd (none (subst (λ (y : ℕ). Separates p s y) same.1 (subst (λ (x : ℕ). Separates p x j) same.0 other))))
        (this_or_before t j before);
    order = was.order;
  }

  -- no demand is left, and the next state comes
  pub state_before : length p.demands ≤ k → AreSeparationsBefore p (s + 1) 0 found
  state_before all = record {
    each = All-weaker (λ x. (x.state.0 ≤ length p.listed) × ComesBefore x.state.0 x.demand s k × Separates p x.state.0 x.demand)
        (λ x. (x.state.0 ≤ length p.listed) × ComesBefore x.state.0 x.demand (s + 1) 0 × Separates p x.state.0 x.demand)
        (λ x is. (is.0, ⊎_elim (λ (lt : x.state.0 < s). inl (omega (arith, lt))) (λ (e : (x.state.0 ≡ s) × (x.demand < k)). let one = e.0 in inl (omega (arith, one))) is.1, is.2)) found was.each;
    all = λ t j before other. ⊎_elim
        (λ (lt : t < s + 1). ⊎_elim
        (λ (same : t ≡ s). let there = slice_get_within p.demands j other.demand other.at in was.all t j (inr (same, omega (arith, there, all))) other)
        (λ (differ : t ≢ s). was.all t j (inl (omega (arith, lt, differ))) other)
        (cases_eq t s))
        (λ (e : (t ≡ s + 1) × (j < 0)). let low = e.1 in absurd (omega (arith, low)))
        before;
    order = was.order;
  }

-- no state is left
pub all_found : (p : Case) (n : ℕ) (found : List Separation) → length p.listed < n → AreSeparationsBefore p n 0 found → AreSeparations p found
all_found p n found past was = record {
  each = All-weaker (λ x. (x.state.0 ≤ length p.listed) × ComesBefore x.state.0 x.demand n 0 × Separates p x.state.0 x.demand)
      (λ x. (x.state.0 ≤ length p.listed) × Separates p x.state.0 x.demand) (λ x is. (is.0, is.2)) found was.each;
  all = λ s k le sep. was.all s k (inl (omega (arith, past, le))) sep;
  order = was.order;
}
