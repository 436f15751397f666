-- a certificate in lowest terms of which a number is too wide
use Rattle.std.proofs.Common.{◌≡◌, ℕ, zero, suc, ◌*◌, ◌/◌, ◌<◌, ◌≤◌, ◌^◌, ◌⊎◌, List, length, sym, ap, ◌∙◌, arith, subst, inl, inr, ⊎_elim, unsigned_abs, ℤ, pos, ◌+ℤ◌, ◌*ℤ◌, ◌<ℤ◌, ◌≤ℤ◌}
use Rattle.net_core.proofs.Library.{◌∣◌, dvd-zero, mul-div_cancel', dvd-mul_left, *ℤ_comm, *ℤ-zero, pos-*ℤ-pos, ints, unsigned_abs-mul, positive_factors}
use Rattle.module_prices.specs.declared.cheapest.UnitPair.{UnitPair}
use Rattle.plan_terms.specs.Terms.{MasterColumn, Link, CutLine, CertificateLine, asked, fixed_along, given}
use Rattle.simplex_law.{specs.Terms.{int_sum, dot, ColumnOf, IsSlack, IsOptimum}, proofs.Lemmas.{moved_out, swap_last, times_nonneg, sum-same, sum-times, sum_grows}}
use Rattle.checked_fraction.proofs.Products.{regroup, cancelled, size_times}
use Rattle.master_law.{specs.BasisLines.AreLinesOf, specs.MasterEvidence.{FillRows, HasWideValue}, specs.MasterPrograms.{master_bound, master_slack, column_given, IsCutColumn, IsMasterColumn}, proofs.Certified.given_is, proofs.Shared.divides_common, proofs.Valued.amount_is}

over_zero : (n : ℕ) → pos 0 <ℤ pos n → 0 < n
over_zero zero h = absurd (omega (arith, ints, h))
over_zero (suc n) h = omega arith

module _ (links : List Link) (pairs : List UnitPair) (cuts : List CutLine) (basis : ℕ → ColumnOf MasterColumn) (values : ℕ → ℕ) (den : ℕ) (duals : ℕ → ℤ) (duals_den : ℤ)
    (o : IsOptimum (length links) (master_bound pairs) (IsMasterColumn links pairs cuts) basis (λ j. pos (values j)) (pos den) duals duals_den)
    (g part : ℕ) (few : ℕ → ℕ) (whole : g * part ≡ den) (of_cut : (j : ℕ) → j < length links → IsCutColumn links pairs cuts (basis j) → values j ≡ g * few j)
    (of_slack : (j : ℕ) → j < length links → IsSlack (length links) master_slack (basis j) → few j ≡ 0) (lowest : (d : ℕ) → d ∣ part → ((j : ℕ) → j < length links → d ∣ few j) → d ≡ 1) where
  positive : (0 < g) × (0 < part)
  positive = positive_factors g part (subst (λ n. 0 < n) (sym whole) (over_zero den o.positive))

  module _ (many : ℕ → ℤ) (c : ℕ) (fill : FillRows links pairs cuts basis many c) where
    -- amounts over one denominator and over another
    both : (j : ℕ) → j < length links → many j *ℤ pos den ≡ pos c *ℤ pos (values j)
    both j l =
        let r = o.best.feasible.filled j l in
        let d = r.1 in
        let value = dot (length links) r.0 (master_bound pairs) in
        let one : many j *ℤ d ≡ pos c *ℤ value = amount_is links pairs cuts basis duals duals_den o.best many c fill j r.0 d l r.2.1 in
        let two : pos (values j) *ℤ d ≡ pos den *ℤ value = amount_is links pairs cuts basis duals duals_den o.best (λ i. pos (values i)) den o.filled j r.0 d l r.2.1 in
        cancelled d (many j *ℤ pos den) (pos c *ℤ pos (values j)) r.2.0
        (*ℤ_comm d (many j *ℤ pos den) ∙ (swap_last (many j) (pos den) d ∙ (ap (λ x. x *ℤ pos den) one
        ∙ (swap_last (pos c) value (pos den) ∙ (regroup (pos c) (pos den) value ∙ (ap (λ x. pos c *ℤ x) (sym two) ∙ (sym (regroup (pos c) (pos (values j)) d) ∙ *ℤ_comm (pos c *ℤ pos (values j)) d)))))))

    cut_is : (j : ℕ) → j < length links → IsCutColumn links pairs cuts (basis j) → many j *ℤ pos part ≡ pos (c * few j)
    cut_is j l is =
        cancelled (pos g) (many j *ℤ pos part) (pos (c * few j)) (some g positive.0)
        (moved_out (pos g) (many j) (pos part) ∙ (ap (λ x. many j *ℤ x) (pos-*ℤ-pos g part ∙ ap pos whole) ∙ (both j l
        ∙ (ap (λ x. pos c *ℤ pos x) (of_cut j l is) ∙ (pos-*ℤ-pos c (g * few j) ∙ (ap pos (moved c g (few j)) ∙ sym (pos-*ℤ-pos g (c * few j))))))))
      where
        some : (n : ℕ) → 0 < n → pos 0 <ℤ pos n
        some n h = omega (arith, ints, h)

        moved : (x y z : ℕ) → x * (y * z) ≡ y * (x * z)
        moved x y z = omega arith

    part_divides : part ∣ c
    part_divides = divides_common part c (length links) few each lowest
      where
        each : (j : ℕ) → j < length links → part ∣ c * few j
        each j l = ⊎_elim
            (λ is. subst (λ x. part ∣ x) (sym (unsigned_abs-mul (many j) (pos part)) ∙ ap unsigned_abs (cut_is j l is)) (dvd-mul_left part (unsigned_abs (many j))))
            (λ is. subst (λ x. part ∣ x) (sym (ap (λ x. c * x) (of_slack j l is) ∙ omega arith)) (dvd-zero part))
            (o.best.feasible.columns j l)

    abbrev times : ℕ
    times = c / part

    cut_times : (j : ℕ) → j < length links → IsCutColumn links pairs cuts (basis j) → many j ≡ pos times *ℤ pos (few j)
    cut_times j l is =
        let e : part * times ≡ c = mul-div_cancel' part part_divides in
        cancelled (pos part) (many j) (pos times *ℤ pos (few j)) (some part positive.1)
        (*ℤ_comm (pos part) (many j) ∙ (cut_is j l is ∙ (ap (λ x. pos (x * few j)) (sym e) ∙ (sym (pos-*ℤ-pos (part * times) (few j)) ∙ (ap (λ x. x *ℤ pos (few j)) (sym (pos-*ℤ-pos part times)) ∙ regroup (pos part) (pos times) (pos (few j)))))))
      where
        some : (n : ℕ) → 0 < n → pos 0 <ℤ pos n
        some n h = omega (arith, ints, h)

    module _ (pc : 0 < c) where
      times_some : 0 < times
      times_some = (positive_factors part times (subst (λ x. 0 < x) (sym (mul-div_cancel' part part_divides)) pc)).1

      -- a sum over the cuts is as many times as large
      wide_sum : (w : ℕ → ℤ) → ((j : ℕ) → j < length links → pos 0 ≤ℤ w j) → ((j : ℕ) → j < length links → IsSlack (length links) master_slack (basis j) → w j ≡ pos 0)
          → (n s : ℕ) → n ≤ length links → pos s ≡ int_sum n (λ j. pos (few j) *ℤ w j) → 2 ^ 126 ≤ s → 2 ^ 126 ≤ unsigned_abs (int_sum (length links) (λ j. many j *ℤ w j))
      wide_sum w high none n s le is wide =
          let m = length links in
          let total = int_sum m (λ j. pos (few j) *ℤ w j) in
          let same : int_sum m (λ j. many j *ℤ w j) ≡ pos times *ℤ total =
          sum-same m (λ j. many j *ℤ w j) (λ j. pos times *ℤ (pos (few j) *ℤ w j)) (λ j l. ⊎_elim
          (λ of. ap (λ x. x *ℤ w j) (cut_times j l of) ∙ regroup (pos times) (pos (few j)) (w j))
          (λ of. ap (λ x. many j *ℤ x) (none j l of) ∙ (*ℤ-zero (many j) ∙ sym (ap (λ x. pos times *ℤ (pos (few j) *ℤ x)) (none j l of) ∙ (ap (λ x. pos times *ℤ x) (*ℤ-zero (pos (few j))) ∙ *ℤ-zero (pos times)))))
          (o.best.feasible.columns j l))
          ∙ sum-times m (pos times) (λ j. pos (few j) *ℤ w j) in
          let more = sum_grows m n (λ j. pos (few j) *ℤ w j) (λ j l. times_nonneg (pos (few j)) (w j) (omega (arith, ints)) (high j l)) le in
          let size : s ≤ unsigned_abs total = above s total (omega (arith, ints, more, is)) in
          omega (arith, wide, size, size_times times total times_some, ap unsigned_abs same)
        where
          above : (s : ℕ) (x : ℤ) → pos s ≤ℤ x → s ≤ unsigned_abs x
          above s x h = omega (arith, ints, h)

      wide_amount : (j : ℕ) → j < length links → 2 ^ 62 ≤ few j → 2 ^ 62 ≤ unsigned_abs (many j)
      wide_amount j l wide = ⊎_elim
          (λ of. omega (arith, wide, size_times times (pos (few j)) times_some, ap unsigned_abs (cut_times j l of)))
          (λ of. absurd (omega (arith, wide, of_slack j l of)))
          (o.best.feasible.columns j l)

  -- what a column asks for is 0 or more, and 0 for a slack
  abbrev weight : ℕ → ℤ
  weight j = (basis j).gain +ℤ pos (column_given links (basis j).name)

  slack_weight : (j : ℕ) → IsSlack (length links) master_slack (basis j) → weight j ≡ pos 0
  slack_weight j is = let none : column_given links (basis j).name ≡ 0 = ap (λ name. column_given links name) is.named in omega (arith, ints, is.gain, none)

  weight_high : (j : ℕ) → j < length links → pos 0 ≤ℤ weight j
  weight_high j l = ⊎_elim
      (λ (is : IsCutColumn links pairs cuts (basis j)). let given_of : column_given links (basis j).name ≡ fixed_along is.cut.lengths links = ap (λ name. column_given links name) is.named in omega (arith, ints, is.gain, given_of))
      (λ (is : IsSlack (length links) master_slack (basis j)). omega (arith, ints, slack_weight j is))
      (o.best.feasible.columns j l)

  -- a numerator of the certificate is wide, or a sum of the lines of its first columns
  pub wide_lines : (n : ℕ) (lines : List CertificateLine) → n ≤ length links → AreLinesOf links n basis few lines
      → ((j : ℕ) × (j < length links) × (2 ^ 62 ≤ few j)) ⊎ (2 ^ 126 ≤ asked lines) ⊎ (2 ^ 126 ≤ given links lines)
      → HasWideValue links pairs cuts basis
  wide_lines n lines le of wide = record {
    duals = duals;
    den = duals_den;
    best = o.best;
    wide = λ many c common fill. ⊎_elim
        (λ (numerator : (j : ℕ) × (j < length links) × (2 ^ 62 ≤ few j)). inl (numerator.0, numerator.1, wide_amount many c fill common.positive numerator.0 numerator.1 numerator.2))
        (λ sums. inr (⊎_elim
        (λ (first : 2 ^ 126 ≤ asked lines). inl (wide_sum many c fill common.positive weight weight_high (λ j l is. slack_weight j is) n (asked lines) le of.asked_is first))
        (λ (second : 2 ^ 126 ≤ given links lines). inr (wide_sum many c fill common.positive (λ j. pos (column_given links (basis j).name)) (λ j l. omega (arith, ints))
        (λ j l is. ap (λ name. pos (column_given links name)) is.named) n (given links lines) le (given_is links n basis few lines of) second))
        sums))
        wide;
  }
