-- what cuts cost at the prices of the links
use Rattle.std.proofs.Common.{◌≡◌, ℕ, zero, suc, ◌+◌, ◌*◌, ◌<◌, ◌≤◌, List, ⊎_elim, mul-pos, sym, ap, ◌∙◌, subst, arith, ℤ, pos, ◌+ℤ◌, ◌-ℤ◌, ◌*ℤ◌, ◌<ℤ◌, ◌≤ℤ◌}
use Rattle.net_core.proofs.Library.{cases_lt, ints, *ℤ_comm, pos-*ℤ-pos}
use Rattle.checked_fraction.{specs.Terms.num, specs.declared.row.Row.Row}
use Rattle.module_prices.specs.declared.cheapest.UnitPair.{UnitPair}
use Rattle.simplex_law.proofs.Lemmas.{times_nonneg, times_nonpositive}
use Rattle.master_bound.{specs.inner.Gaining.cost_below, specs.Narrow.length_entry}

next : (n : ℕ) → n + 1 ≡ suc n
next n = omega arith

module _ (duals : Row) (pairs : List UnitPair) (lengths : List ℕ) where
  -- the cost of one entry more
  pub cost_more : (n c : ℕ) → pos c ≡ num duals.nums n *ℤ pos (length_entry pairs lengths n) → cost_below duals pairs lengths (n + 1) ≡ cost_below duals pairs lengths n +ℤ pos c
  cost_more n c is = ap (cost_below duals pairs lengths) (next n) ∙ ap (λ x. cost_below duals pairs lengths n +ℤ x) (sym is)

  -- more entries cost no less
  pub cost_rises : (n m : ℕ) → ((k : ℕ) → k < m → pos 0 ≤ℤ num duals.nums k) → n ≤ m → cost_below duals pairs lengths n ≤ℤ cost_below duals pairs lengths m
  cost_rises n zero high le = let z : n ≡ 0 = omega (arith, le) in subst (λ k. cost_below duals pairs lengths k ≤ℤ pos 0) (sym z) (omega (arith, ints))
  cost_rises n (suc m) high le = ⊎_elim
      (λ l.
      let before = cost_rises n m (λ k h. high k (omega (arith, h))) (omega (arith, l)) in
      let one : pos 0 ≤ℤ (num duals.nums m *ℤ pos (length_entry pairs lengths m)) = times_nonneg (num duals.nums m) (pos (length_entry pairs lengths m)) (high m (omega arith)) (omega (arith, ints)) in
      omega (arith, ints, before, one))
      (λ g. let e : n ≡ suc m = omega (arith, le, g) in subst (λ k. cost_below duals pairs lengths k ≤ℤ cost_below duals pairs lengths (suc m)) (sym e) (same (cost_below duals pairs lengths (suc m))))
      (cases_lt n (suc m))
    where
      same : (x : ℤ) → x ≤ℤ x
      same x = omega (arith, ints)

  -- what doesn't gain at first, doesn't
  pub none_gained : (n : ℕ) (gain : ℤ) → ((k : ℕ) → k < n → pos 0 ≤ℤ num duals.nums k) → pos 0 <ℤ duals.den → gain ≤ℤ pos 0 → (duals.den *ℤ gain) ≤ℤ cost_below duals pairs lengths n
  none_gained n gain high positive low =
      let one = times_nonpositive duals.den gain (omega (arith, ints, positive)) low in
      let two = cost_rises 0 n high (omega arith) in
      omega (arith, ints, one, two)

  -- an entry that costs what is left or more
  pub used_up : (n m rest c : ℕ) (worth : ℤ) → ((k : ℕ) → k < m → pos 0 ≤ℤ num duals.nums k) → n < m → pos c ≡ num duals.nums n *ℤ pos (length_entry pairs lengths n)
      → pos rest ≡ worth -ℤ cost_below duals pairs lengths n → rest ≤ c → worth ≤ℤ cost_below duals pairs lengths m
  used_up n m rest c worth high lt is left le =
      let one = cost_more n c is in
      let two = cost_rises (n + 1) m high (omega (arith, lt)) in
      omega (arith, ints, one, two, left, le)

-- the gain over the denominator of the prices
pub gained : (g d : ℕ) (gain den : ℤ) → pos 0 <ℤ gain → pos 0 <ℤ den → pos g ≡ gain → pos d ≡ den → (0 < g * d) × (pos (g * d) ≡ den *ℤ gain -ℤ pos 0)
gained g d gain den some_gain some_den first second =
    let product : pos (g * d) ≡ den *ℤ gain = sym (pos-*ℤ-pos g d) ∙ (ap (λ x. x *ℤ pos d) first ∙ (ap (λ x. gain *ℤ x) second ∙ *ℤ_comm gain den)) in
    (mul-pos (omega (arith, ints, some_gain, first)) (omega (arith, ints, some_den, second)), omega (arith, ints, product))
