-- facts about a program hold of bounds that agree
use Rattle.std.proofs.Common.{◌≡◌, ℕ, zero, suc, ◌<◌, ◌≤◌, ◌+◌, ◌*◌, inl, inr, ⊎_elim, refl, sym, ap, ◌∙◌, arith, subst, unsigned_abs, ℤ, pos, ◌-ℤ◌, ◌*ℤ◌, ◌<ℤ◌}
use Rattle.checked_fraction.specs.Terms.{combined}
use Rattle.net_core.specs.Terms.{sum_below}
use Rattle.simplex_law.{specs.Sums.dot, specs.Programs.ColumnOf, specs.inner.Lexicographic.{IsLexNonneg, valued}, specs.inner.Pivots.IsPick, proofs.Sums.dot-same}

lex_same : (n : ℕ) (u v : ℕ → ℤ) → ((k : ℕ) → k < n → u k ≡ v k) → IsLexNonneg n u → IsLexNonneg n v
lex_same zero u v e h = tt
lex_same (suc n) u v e h = ⊎_elim
    (λ above. inl (subst (λ x. pos 0 <ℤ x) (e 0 (omega arith)) above))
    (λ none. inr (sym (e 0 (omega arith)) ∙ none.0, lex_same n (λ k. u (suc k)) (λ k. v (suc k)) (λ k l. e (suc k) (omega (arith, l))) none.1))
    h

module _ {N : Type 0} (m : ℕ) (b c : ℕ → ℤ) (is_column : ColumnOf N → Type 0) (same : (k : ℕ) → k < m → b k ≡ c k) where
  -- the sums of absolute products are equal where the bounds agree
  pub sizes : (n : ℕ) (nums : ℕ → ℤ) → n ≤ m → sum_below n (λ k. unsigned_abs (nums k) * unsigned_abs (b k)) ≡ sum_below n (λ k. unsigned_abs (nums k) * unsigned_abs (c k))
  sizes zero nums le = refl
  sizes (suc n) nums le =
      ap (λ s. s + unsigned_abs (nums n) * unsigned_abs (b n)) (sizes n nums (omega (arith, le)))
      ∙ ap (λ x. sum_below n (λ k. unsigned_abs (nums k) * unsigned_abs (c k)) + unsigned_abs (nums n) * unsigned_abs x) (same n (omega (arith, le)))

module _ (m : ℕ) (b c : ℕ → ℤ) (same : (k : ℕ) → k < m → b k ≡ c k) where
  valued_same : (nums : ℕ → ℤ) (k : ℕ) → valued m b nums k ≡ valued m c nums k
  valued_same nums zero = dot-same m nums nums b c (λ k l. refl) same
  valued_same nums (suc k) = refl

  -- a pick is one of bounds that agree
  pub same_pick : {N : Type 0} (nums : ℕ → ℕ → ℤ) (duals : ℕ → ℤ) (duals_den : ℤ) (column : ColumnOf N) (r : ℕ) → IsPick m b nums duals duals_den column r → IsPick m c nums duals duals_den column r
  same_pick nums duals duals_den column r k = record {
    inside = k.inside;
    positive = k.positive;
    gains = k.gains;
    ratio = λ i l ne above. lex_same (suc m)
        (combined (valued m b (nums i)) (dot m (nums i) column.entry) (valued m b (nums r)) (dot m (nums r) column.entry))
        (combined (valued m c (nums i)) (dot m (nums i) column.entry) (valued m c (nums r)) (dot m (nums r) column.entry))
        (λ k h. ap (λ x. (x *ℤ dot m (nums r) column.entry) -ℤ (dot m (nums i) column.entry *ℤ valued m b (nums r) k)) (valued_same (nums i) k)
        ∙ ap (λ x. (valued m c (nums i) k *ℤ dot m (nums r) column.entry) -ℤ (dot m (nums i) column.entry *ℤ x)) (valued_same (nums r) k))
        (k.ratio i l ne above);
  }
