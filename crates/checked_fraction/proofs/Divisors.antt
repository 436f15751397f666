-- common divisors of rows
use Rattle.std.proofs.Common.{ℕ, ℤ, ◌≡◌, ◌+◌, ◌<◌, ◌≤◌, unsigned_abs, sym, subst, arith, ⊎_elim}
use Rattle.net_core.proofs.Library.{dvd_refl, dvd_trans, one-dvd, cases_lt, IsGcd, ◌∣◌}
use Rattle.checked_fraction.specs.inner.Passes.{IsRowGcd}

-- no numbers
pub row_gcd_none : (f : ℕ → ℤ) (whole : ℕ) → IsRowGcd f 0 whole whole
row_gcd_none f whole = record {
  of_whole = dvd_refl whole;
  of_numbers = λ k lt. absurd (omega arith);
  greatest = λ d of_whole all. of_whole;
}

-- one number more
pub row_gcd_more : (f : ℕ → ℤ) (n whole g x h : ℕ) → IsRowGcd f n whole g → x ≡ unsigned_abs (f n) → IsGcd g x h → IsRowGcd f (n + 1) whole h
row_gcd_more f n whole g x h row e both = record {
  of_whole = dvd_trans h both.0 row.of_whole;
  of_numbers = λ k lt. ⊎_elim
      (λ l. dvd_trans h both.0 (row.of_numbers k l))
      (λ ge. let same : n ≡ k = omega arith in subst (λ i. h ∣ unsigned_abs (f i)) same (subst (λ y. h ∣ y) e both.1))
      (cases_lt k n);
  greatest = λ d of_whole all. both.2 d
      (row.greatest d of_whole (λ k l. all k (omega arith)))
      (subst (λ y. d ∣ y) (sym e) (all n (omega arith)));
}

-- one size more
pub sizes_more : (f : ℕ → ℤ) (n t u : ℕ) → ((k : ℕ) → k < n → unsigned_abs (f k) ≤ t) → t ≤ u → unsigned_abs (f n) ≤ u → (k : ℕ) → k < n + 1 → unsigned_abs (f k) ≤ u
sizes_more f n t u sizes le here k lt = ⊎_elim
    (λ l. let low : unsigned_abs (f k) ≤ t = sizes k l in omega arith)
    (λ ge. let same : n ≡ k = omega arith in subst (λ i. unsigned_abs (f i) ≤ u) same here)
    (cases_lt k n)

-- no further number changes a divisor of 1
pub row_gcd_one : (f : ℕ → ℤ) (k n whole g : ℕ) → k ≤ n → g ≡ 1 → IsRowGcd f k whole g → IsRowGcd f n whole 1
row_gcd_one f k n whole g le e row = record {
  of_whole = one-dvd whole;
  of_numbers = λ i l. one-dvd (unsigned_abs (f i));
  greatest = λ d of_whole all. subst (λ x. d ∣ x) e (row.greatest d of_whole (λ i l. all i (omega arith)));
}
