-- the raw value of an optimum is at least that of each of its cuts alone, and so is the bound
use Rattle.std.{proofs.Common.{◌≡◌, ◌≢◌, ℕ, ◌-◌, ◌*◌, ◌<◌, ◌≤◌, ◌⊎◌, List, All, Contains, length, slice_index, ap, ◌∙◌, arith, subst, inl, inr, ⊎_elim, ℤ, pos, ◌-ℤ◌, ◌*ℤ◌, ◌<ℤ◌, ◌≤ℤ◌}, proofs.Math.Nat.{mul-le-mul_left, eq-zero_of_zero-dvd}}
use Rattle.net_core.proofs.Library.{◌∣◌, cases_eq, cases_lt, dvd_trans, le_of_mul-le-mul_left, mul-sub, pos-*ℤ-pos, ints}
use Rattle.module_prices.specs.declared.cheapest.UnitPair.{UnitPair}
use Rattle.plan_terms.specs.Terms.{MasterColumn, Link, CutLine, IsModule, IsBound, fixed_along, IsValid}
use Rattle.simplex_law.{specs.Terms.{int_sum, ColumnOf, IsOptimum, FitBounds}, proofs.Lemmas.{minus_left, greatest}}
use Rattle.master_law.{specs.MasterPrograms.{master_bound, master_slack, unit_capacities, unit_costs, IsCutColumn, IsMasterColumn}, specs.UnitPairs.AreUnitPairs, proofs.Columns.{column_of, is_column_of, unit_at_most}}

module _ (links : List Link) (pairs : List UnitPair) (cuts : List CutLine) (sound : All (λ l. All IsModule l.modules) links) (units : AreUnitPairs links pairs) (cut : CutLine) (held : Contains cuts cut) (num over : ℕ) (valid : IsValid links cut.lengths num over) where
  unit_low : (e : ℕ) → e < length links → num * slice_index cut.lengths e * slice_index (unit_capacities pairs) e ≤ over * slice_index (unit_costs pairs) e
  unit_low e inside = unit_at_most links pairs sound units (λ e. num * slice_index cut.lengths e) over valid.priced e inside

  -- the cut's multiplier fits
  fits : FitBounds 1 (length links) (λ c. (column_of links pairs cut).entry) (master_bound pairs) (λ c. pos num) (pos over)
  fits = record {
    positive = some over valid.positive;
    amounts_positive = λ c l. omega (arith, ints);
    within = λ e l. let p : pos num *ℤ pos (slice_index cut.lengths e * slice_index (unit_capacities pairs) e) ≡ pos (num * (slice_index cut.lengths e * slice_index (unit_capacities pairs) e)) = pos-*ℤ-pos num (slice_index cut.lengths e * slice_index (unit_capacities pairs) e) in
        omega (arith, ints, p, pos-*ℤ-pos over (slice_index (unit_costs pairs) e), unit_low e l);
  }
    where
      some : (n : ℕ) → 1 ≤ n → pos 0 <ℤ pos n
      some n h = omega (arith, ints, h)

  -- the raw value of an optimum is at least that of the cut alone
  pub own_raw : (basis : ℕ → ColumnOf MasterColumn) (values : ℕ → ℤ) (den : ℕ) (duals : ℕ → ℤ) (duals_den : ℤ) (raw : ℕ)
      → IsOptimum (length links) (master_bound pairs) (IsMasterColumn links pairs cuts) basis values (pos den) duals duals_den
      → int_sum (length links) (λ j. values j *ℤ (basis j).gain) ≡ pos raw
      → num * (cut.right - fixed_along cut.lengths links) * den ≤ raw * over
  own_raw basis values den duals duals_den raw o is =
      let column = column_of links pairs cut in
      let best = greatest (length links) (master_bound pairs) master_slack (IsCutColumn links pairs cuts) basis values duals (pos den) duals_den o 1 (λ c. column) (λ c. pos num) (pos over) (λ c l. inl (is_column_of links pairs cuts cut held)) fits in
      let fixed = fixed_along cut.lengths links in
      let gain : int_sum 1 (λ c. pos num *ℤ column.gain) ≡ pos (num * cut.right) -ℤ pos (num * fixed) = omega (arith, ints, minus_left (pos cut.right) (pos fixed) (pos num)) in
      let most : (pos den *ℤ (pos (num * cut.right) -ℤ pos (num * fixed))) ≤ℤ pos (over * raw) =
      subst (λ x. (pos den *ℤ x) ≤ℤ pos (over * raw)) gain (subst (λ y. (pos den *ℤ int_sum 1 (λ c. pos num *ℤ column.gain)) ≤ℤ y) (ap (λ x. pos over *ℤ x) is ∙ pos-*ℤ-pos over raw) best) in
      let what : num * (cut.right - fixed) ≡ num * cut.right - num * fixed = mul-sub num cut.right fixed in
      ⊎_elim
      (λ (le : num * fixed ≤ num * cut.right). let d : pos (num * cut.right) -ℤ pos (num * fixed) ≡ pos (num * cut.right - num * fixed) = omega (arith, ints, le) in
      let m : pos (den * (num * cut.right - num * fixed)) ≤ℤ pos (over * raw) = subst (λ x. x ≤ℤ pos (over * raw)) (ap (λ x. pos den *ℤ x) d ∙ pos-*ℤ-pos den (num * cut.right - num * fixed)) most in
      omega (arith, ints, m, ap (λ x. x * den) what))
      (λ (lt : num * cut.right < num * fixed). let z : num * cut.right - num * fixed ≡ 0 = omega (arith, lt) in
      omega (arith, ap (λ x. x * den) (what ∙ z)))
      (either (num * fixed) (num * cut.right))
    where
      either : (a b : ℕ) → (a ≤ b) ⊎ (b < a)
      either a b = ⊎_elim (λ l. inr l) (λ g. inl g) (cases_lt b a)

-- a larger value has a bound at least as large
pub bound_rises : (links : List Link) (low low_den num den bound own : ℕ) → 0 < den → low * den ≤ num * low_den → IsBound links num den bound → IsBound links low low_den own → own ≤ bound
bound_rises links low low_den num den bound own pd le is small = ⊎_elim
    (λ z. let none : 0 ∣ own = subst (λ g. g ∣ own) z small.multiple in omega (arith, eq-zero_of_zero-dvd none))
    (λ some. small.least bound (dvd_trans small.divisor (is.is_divisor.greatest small.divisor small.is_divisor.divides) is.multiple) (reached some))
    (cases_eq small.divisor 0)
  where
    reached : small.divisor ≢ 0 → low ≤ bound * low_den
    reached some =
        let other : is.divisor ≢ 0 = λ z. some (eq-zero_of_zero-dvd (subst (λ d. d ∣ small.divisor) z (small.is_divisor.greatest is.divisor is.is_divisor.divides))) in
        let top : low_den * num ≤ low_den * (bound * den) = mul-le-mul_left low_den (is.reaches other) in
        let all : den * low ≤ den * (bound * low_den) = omega (arith, le, top) in
        le_of_mul-le-mul_left all pd
