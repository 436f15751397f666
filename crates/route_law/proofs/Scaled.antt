-- bases, steps and evidence of a packing program whose bounds are all multiplied by one number
use Rattle.std.proofs.Common.{◌≡◌, ℕ, zero, suc, ◌*◌, ◌<◌, ◌≤◌, inl, inr, sym, ap, ◌∙◌, arith, subst, ⊎_elim, unsigned_abs, mul-le-mul_left, ℤ, pos, ◌+ℤ◌, ◌*ℤ◌, ◌<ℤ◌, ◌≤ℤ◌}
use Rattle.net_core.proofs.Library.{*ℤ-zero, ints}
use Rattle.plan_terms.specs.Terms.{sum_below}
use Rattle.simplex_law.{specs.Terms.{dot, ColumnOf, IsFeasible, IsBest, AreGainingSteps, IsReached, IsWide, HoldsNumber, HoldsSum}, proofs.Lemmas.{distribute_left, le_times, moved_out, times_nonneg, le_cancel, sum-same, sum-times}}
use Rattle.checked_fraction.proofs.Products.{size_times}

wide_times : (d : ℕ) (z : ℤ) → 0 < d → IsWide z → IsWide (pos d *ℤ z)
wide_times d z pd w = omega (arith, w, size_times d z pd)

pub lt_times : (d : ℕ) (x y : ℤ) → 0 < d → x <ℤ y → (pos d *ℤ x) <ℤ (pos d *ℤ y)
lt_times d x y pd h = omega (arith, ints, le_times (pos d) (x +ℤ pos 1) y (omega (arith, ints)) (omega (arith, ints, h)), distribute_left x (pos 1) (pos d), one_of (pos d), pd)
  where
    one_of : (z : ℤ) → z *ℤ pos 1 ≡ z
    one_of z = omega (arith, ints)

module _ {N : Type 0} (m : ℕ) (b c : ℕ → ℤ) (slack : ℕ → N) (is_column : ColumnOf N → Type 0) (d : ℕ) (pd : 0 < d) (same : (k : ℕ) → k < m → c k ≡ pos d *ℤ b k) where
  pub dot_scaled : (u : ℕ → ℤ) → dot m u c ≡ pos d *ℤ dot m u b
  dot_scaled u = sum-same m _ _ (λ k l. ap (λ x. u k *ℤ x) (same k l) ∙ moved_out (u k) (pos d) (b k)) ∙ sum-times m (pos d) (λ k. u k *ℤ b k)

  pub feasible_scaled : (basis : ℕ → ColumnOf N) → IsFeasible m b is_column basis → IsFeasible m c is_column basis
  feasible_scaled basis f = record {
    columns = f.columns;
    filled = λ i l. let r = f.filled i l in (r.0, r.1, r.2, subst (λ x. pos 0 ≤ℤ x) (sym (dot_scaled r.0)) (times_nonneg (pos d) (dot m r.0 b) (omega (arith, ints)) r.3));
  }

  pub best_scaled : (basis : ℕ → ColumnOf N) (duals : ℕ → ℤ) (den : ℤ) → IsBest m b is_column basis duals den → IsBest m c is_column basis duals den
  best_scaled basis duals den f = record { feasible = feasible_scaled basis f.feasible; objective = f.objective; none = f.none }

  steps_scaled : (n : ℕ) (first last : ℕ → ColumnOf N) → AreGainingSteps m b is_column n first last → AreGainingSteps m c is_column n first last
  steps_scaled zero first last h = h
  steps_scaled (suc n) first last h = (h.0, steps_scaled n first h.0 h.1, feasible_scaled h.0 h.2, h.3)

  pub reached_scaled : (first basis : ℕ → ColumnOf N) → IsReached m b is_column first basis → IsReached m c is_column first basis
  reached_scaled first basis r = record { from = feasible_scaled first r.from; here = feasible_scaled basis r.here; steps = r.steps; path = steps_scaled r.steps first basis r.path }

  pub number_scaled : (basis : ℕ → ColumnOf N) (name : N) → HoldsNumber m b slack is_column basis name → HoldsNumber m c slack is_column basis name
  number_scaled basis name h = (
    h.0,
    ⊎_elim
        (λ x. inl (x.0, x.1, x.2, subst IsWide (sym (same x.0 x.1)) (wide_times d (b x.0) pd x.3)))
        (λ x. inr x)
        h.1,
  )

  sums_more : (n : ℕ) (nums : ℕ → ℤ) → n ≤ m → sum_below n (λ k. unsigned_abs (nums k) * unsigned_abs (b k)) ≤ sum_below n (λ k. unsigned_abs (nums k) * unsigned_abs (c k))
  sums_more zero nums le = omega arith
  sums_more (suc n) nums le =
      let size : unsigned_abs (b n) ≤ unsigned_abs (c n) = subst (λ x. unsigned_abs (b n) ≤ unsigned_abs x) (sym (same n (omega (arith, le)))) (size_times d (b n) pd) in
      omega (arith, sums_more n nums (omega (arith, le)), mul-le-mul_left (unsigned_abs (nums n)) size)

  pub sum_scaled : (basis : ℕ → ColumnOf N) (i : ℕ) → HoldsSum m b basis i → HoldsSum m c basis i
  sum_scaled basis i h = (h.0, h.1, h.2, omega (arith, h.3, sums_more m h.0 (omega arith)))

  -- back from the multiple
  dot_back : (u : ℕ → ℤ) → pos 0 ≤ℤ dot m u c → pos 0 ≤ℤ dot m u b
  dot_back u h = le_cancel (pos d) (pos 0) (dot m u b) (some d pd) (subst (λ x. x ≤ℤ (pos d *ℤ dot m u b)) (sym (*ℤ-zero (pos d))) (subst (λ x. pos 0 ≤ℤ x) (dot_scaled u) h))
    where
      some : (n : ℕ) → 0 < n → pos 0 <ℤ pos n
      some n h = omega (arith, ints, h)

  pub best_back : (basis : ℕ → ColumnOf N) (duals : ℕ → ℤ) (den : ℤ) → IsBest m c is_column basis duals den → IsBest m b is_column basis duals den
  best_back basis duals den f = record {
    feasible = record { columns = f.feasible.columns; filled = λ i l. let r = f.feasible.filled i l in (r.0, r.1, r.2, dot_back r.0 r.3) };
    objective = f.objective;
    none = f.none;
  }
