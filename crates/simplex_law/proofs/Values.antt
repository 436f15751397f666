-- a value is at most a bound
use Rattle.std.proofs.Common.{◌≡◌, ℕ, zero, suc, ◌<◌, ◌≤◌, ◌-◌, ◌*◌, ◌^◌, ◌⊎◌, inl, inr, sym, ap, ◌∙◌, arith, ⊎_elim, subst, unsigned_abs, ℤ, pos, ◌*ℤ◌, ◌<ℤ◌, ◌≤ℤ◌}
use Rattle.net_core.proofs.Library.{cases_lt, mul-le, *ℤ_comm, *ℤ-zero, ints, by_lt_z, unsigned_abs-mul}
use Rattle.checked_fraction.{specs.Terms.IsNarrow, proofs.Products.regroup}
use Rattle.simplex_law.{specs.Sums.{int_sum, dot, unit_vector}, specs.Programs.{ColumnOf, IsPacking}, specs.Bases.IsRow, specs.inner.Tableaux.{IsTableau, HasTableau}, proofs.Arithmetic.{moved_out, le_times, times_nonneg, le_cancel, weaken}, proofs.Sums.{dot-none-column, unit-same}, proofs.Filling.fills, proofs.Limited.weight_positive, proofs.Reached.value_nonneg, proofs.Unique.value_unique}

-- one of n numbers that aren't negative is positive, or all are 0
pub some_positive : (n : ℕ) (v : ℕ → ℤ) → ((k : ℕ) → k < n → pos 0 ≤ℤ v k) → ((k : ℕ) × (k < n) × (pos 0 <ℤ v k)) ⊎ ((k : ℕ) → k < n → v k ≡ pos 0)
some_positive zero v high = inr (λ k l. absurd (omega (arith, l)))
some_positive (suc n) v high = by_lt_z (pos 0) (v n)
    (λ above. inl (n, omega arith, above))
    (λ low. ⊎_elim
    (λ found. inl (found.0, omega (arith, found.1), found.2))
    (λ none. inr (λ k l. ⊎_elim
    (λ lt. none k lt)
    (λ ge. let e : n ≡ k = omega (arith, l, ge) in subst (λ x. v x ≡ pos 0) e (both_ways (v n) (high n (omega arith)) low))
    (cases_lt k n)))
    (some_positive n v (λ k l. high k (omega (arith, l)))))
  where
    both_ways : (x : ℤ) → pos 0 ≤ℤ x → x ≤ℤ pos 0 → x ≡ pos 0
    both_ways x a b = omega (arith, ints, a, b)

-- their sum is 0 or more, and no less than any of them
pub sum_nonneg : (n : ℕ) (f : ℕ → ℤ) → ((k : ℕ) → k < n → pos 0 ≤ℤ f k) → pos 0 ≤ℤ int_sum n f
sum_nonneg zero f high = omega (arith, ints)
sum_nonneg (suc n) f high = omega (arith, ints, high n (omega arith), sum_nonneg n f (λ k l. high k (omega (arith, l))))

pub part_of_sum : (n j : ℕ) (f : ℕ → ℤ) → ((k : ℕ) → k < n → pos 0 ≤ℤ f k) → j < n → f j ≤ℤ int_sum n f
part_of_sum zero j f high lt = absurd (omega (arith, lt))
part_of_sum (suc n) j f high lt = ⊎_elim
    (λ l. omega (arith, ints, high n (omega arith), part_of_sum n j f (λ k h. high k (omega (arith, h))) l))
    (λ ge. let e : n ≡ j = omega (arith, lt, ge) in
    subst (λ x. f x ≤ℤ int_sum (suc n) f) e (omega (arith, ints, sum_nonneg n f (λ k h. high k (omega (arith, h))))))
    (cases_lt j n)

-- a sum up to an earlier end is no more
pub sum_grows : (n o : ℕ) (f : ℕ → ℤ) → ((k : ℕ) → k < n → pos 0 ≤ℤ f k) → o ≤ n → int_sum o f ≤ℤ int_sum n f
sum_grows zero o f high le = let e : 0 ≡ o = omega (arith, le) in subst (λ x. int_sum x f ≤ℤ pos 0) e (omega (arith, ints))
sum_grows (suc n) o f high le = ⊎_elim
    (λ lt. omega (arith, ints, high n (omega arith), sum_grows n o f (λ k h. high k (omega (arith, h))) (omega (arith, lt))))
    (λ ge. let e : suc n ≡ o = omega (arith, le, ge) in subst (λ x. int_sum x f ≤ℤ int_sum (suc n) f) e (omega (arith, ints)))
    (cases_lt o (suc n))

-- a basic column has an entry
basic_entry : {N : Type 0} (m : ℕ) (bound : ℕ → ℤ) (is_column : ColumnOf N → Type 0) (basis : ℕ → ColumnOf N) (nums : ℕ → ℕ → ℤ) (den duals : ℕ → ℤ) (duals_den : ℤ) (j : ℕ)
    → IsPacking m bound is_column → ((j : ℕ) → j < m → is_column (basis j)) → IsTableau m bound basis nums den duals duals_den → j < m
    → (k : ℕ) × (k < m) × (pos 0 <ℤ (basis j).entry k)
basic_entry m bound is_column basis nums den duals duals_den j packing columns s lj = ⊎_elim
    (λ found. found)
    (λ none. let zero_there = dot-none-column m (nums j) ((basis j).entry) none in
    let row = s.rows j lj j lj in
    let one : den j *ℤ unit_vector j j ≡ den j = ap (λ t. den j *ℤ t) (unit-same j) ∙ omega (arith, ints) in
    let over = s.over j lj in
    absurd (omega (arith, ints, zero_there, row, one, over)))
    (some_positive m ((basis j).entry) (λ k l. (packing.entries (basis j) (columns j lj) k l).0))

-- what is no more than a bound times a narrow number is below 2 ^ 124
low : (v d b : ℤ) → pos 0 ≤ℤ v → v ≤ℤ (d *ℤ b) → IsNarrow d → ((pos 0 ≤ℤ b) × IsNarrow b) → unsigned_abs v < 2 ^ 124
low v d b hv le nd nb =
    let size : unsigned_abs v ≤ unsigned_abs d * unsigned_abs b = sized v (d *ℤ b) _ hv le (unsigned_abs-mul d b) in
    let nd' : unsigned_abs d < 2 ^ 62 = nd in
    let nb' : unsigned_abs b < 2 ^ 62 = nb.1 in
    let t : unsigned_abs d * unsigned_abs b ≤ (2 ^ 62 - 1) * (2 ^ 62 - 1) = mul-le (unsigned_abs d) (unsigned_abs b) (2 ^ 62 - 1) (2 ^ 62 - 1) (omega (arith, nd')) (omega (arith, nb')) in
    omega (arith, size, t)
  where
    sized : (v p : ℤ) (q : ℕ) → pos 0 ≤ℤ v → v ≤ℤ p → unsigned_abs p ≡ q → unsigned_abs v ≤ q
    sized v p q h le e = omega (arith, ints, h, le, e)

-- the value of a row of the inverse is no more than some bound
value_within : {N : Type 0} (m : ℕ) (bound : ℕ → ℤ) (is_column : ColumnOf N → Type 0) (basis : ℕ → ColumnOf N) (nums : ℕ → ℕ → ℤ) (den duals : ℕ → ℤ) (duals_den : ℤ) (j : ℕ)
    → IsPacking m bound is_column → ((j : ℕ) → j < m → is_column (basis j)) → IsTableau m bound basis nums den duals duals_den → j < m
    → (k : ℕ) × (k < m) × (dot m (nums j) bound ≤ℤ (den j *ℤ bound k))
value_within m bound is_column basis nums den duals duals_den j packing columns s lj = (entry.0, entry.1, at_most)
  where
    entry : (k : ℕ) × (k < m) × (pos 0 <ℤ (basis j).entry k)
    entry = basic_entry m bound is_column basis nums den duals duals_den j packing columns s lj

    k : ℕ
    k = entry.0

    w : ℕ → ℤ
    w = s.filling.0

    positive : (i : ℕ) → i < m → pos 0 <ℤ w i
    positive i l = weight_positive (w i) (den i) s.filling.1 (s.over i l) s.filling.2.positive (s.filling.2.weights i l)

    high : (i : ℕ) → i < m → pos 0 ≤ℤ (w i *ℤ dot m (nums i) bound)
    high i l = times_nonneg (w i) (dot m (nums i) bound) (weaken (w i) (positive i l)) (value_nonneg m bound basis nums den duals duals_den i s l)

    at_most : dot m (nums j) bound ≤ℤ (den j *ℤ bound k)
    at_most =
        let filled = fills m (λ i. (basis i).entry) nums den w bound s.filling.1 s.filling.2 k entry.1 in
        let part = part_of_sum m j (λ i. (w i *ℤ dot m (nums i) bound) *ℤ (basis i).entry k) (λ i l. times_nonneg (w i *ℤ dot m (nums i) bound) ((basis i).entry k) (high i l) (packing.entries (basis i) (columns i l) k entry.1).0) lj in
        let once = le_times (w j *ℤ dot m (nums j) bound) (pos 1) ((basis j).entry k) (high j lj) (omega (arith, ints, entry.2)) in
        let whole : s.filling.1 *ℤ bound k ≡ w j *ℤ (den j *ℤ bound k) = ap (λ x. x *ℤ bound k) (sym (s.filling.2.weights j lj)) ∙ regroup (w j) (den j) (bound k) in
        le_cancel (w j) (dot m (nums j) bound) (den j *ℤ bound k) (positive j lj) (joined once part filled whole)
      where
        joined : {x y z t u : ℤ} → (x *ℤ pos 1) ≤ℤ y → y ≤ℤ z → z ≡ t → t ≡ u → x ≤ℤ u
        joined {x} {y} {z} {t} {u} a b c d = omega (arith, ints, a, b, c, d)

-- a value over a common denominator isn't negative
pub values_nonneg : {N : Type 0} (m : ℕ) (bound : ℕ → ℤ) (basis : ℕ → ColumnOf N) (nums : ℕ → ℕ → ℤ) (den duals : ℕ → ℤ) (duals_den : ℤ) (values : ℕ → ℤ) (common : ℤ) (j : ℕ)
    → IsTableau m bound basis nums den duals duals_den → pos 0 <ℤ common → values j *ℤ den j ≡ common *ℤ dot m (nums j) bound → j < m → pos 0 ≤ℤ values j
values_nonneg m bound basis nums den duals duals_den values common j s pc is lj =
    le_cancel (den j) (pos 0) (values j) (s.over j lj)
    (at_least (den j) (values j) (common *ℤ dot m (nums j) bound) is (times_nonneg common (dot m (nums j) bound) (weaken common pc) (value_nonneg m bound basis nums den duals duals_den j s lj)))
  where
    at_least : (d v x : ℤ) → v *ℤ d ≡ x → pos 0 ≤ℤ x → (d *ℤ pos 0) ≤ℤ (d *ℤ v)
    at_least d v x e h = omega (arith, ints, e, h, *ℤ_comm d v, *ℤ-zero d)

-- it is below 2 ^ 124 where the denominator is below 2 ^ 62
pub value_low : {N : Type 0} (m : ℕ) (bound : ℕ → ℤ) (is_column : ColumnOf N → Type 0) (basis : ℕ → ColumnOf N) (nums : ℕ → ℕ → ℤ) (den duals : ℕ → ℤ) (duals_den : ℤ) (values : ℕ → ℤ) (common : ℤ) (j : ℕ)
    → IsPacking m bound is_column → ((j : ℕ) → j < m → is_column (basis j)) → IsTableau m bound basis nums den duals duals_den
    → pos 0 <ℤ common → IsNarrow common → ((j : ℕ) → j < m → values j *ℤ den j ≡ common *ℤ dot m (nums j) bound) → j < m
    → unsigned_abs (values j) < 2 ^ 124
value_low m bound is_column basis nums den duals duals_den values common j packing columns s pc narrow values_are lj =
    let at = value_within m bound is_column basis nums den duals duals_den j packing columns s lj in
    let k = at.0 in
    let scaled : (den j *ℤ values j) ≤ℤ (den j *ℤ (common *ℤ bound k)) =
    under (values_are j lj) (*ℤ_comm (values j) (den j)) (le_times common (dot m (nums j) bound) (den j *ℤ bound k) (weaken common pc) at.2) (moved_out common (den j) (bound k)) in
    low (values j) common (bound k) (values_nonneg m bound basis nums den duals duals_den values common j s pc (values_are j lj) lj)
    (le_cancel (den j) (values j) (common *ℤ bound k) (s.over j lj) scaled) narrow (packing.bounds k at.1)
  where
    under : {x y z t u : ℤ} → x ≡ y → x ≡ z → y ≤ℤ t → t ≡ u → z ≤ℤ u
    under {x} {y} {z} {t} {u} a b c d = omega (arith, ints, a, b, c, d)

-- any row of the inverse, over any positive denominator
module _ {N : Type 0} (m : ℕ) (bound : ℕ → ℤ) (is_column : ColumnOf N → Type 0) (basis : ℕ → ColumnOf N) (h : HasTableau m bound basis)
    (j : ℕ) (u : ℕ → ℤ) (e : ℤ) (lj : j < m) (row : IsRow m (λ i. (basis i).entry) (unit_vector j) u e) (over : pos 0 <ℤ e) where
  same : e *ℤ dot m (h.nums j) bound ≡ h.den j *ℤ dot m u bound
  same = value_unique m bound basis h.nums h.den h.duals h.duals_den h.tableau j u e 0 lj row (omega arith)

  -- its value isn't negative
  pub row_value_nonneg : pos 0 ≤ℤ dot m u bound
  row_value_nonneg = le_cancel (h.den j) (pos 0) (dot m u bound) (h.tableau.over j lj)
      (subst (λ x. x ≤ℤ (h.den j *ℤ dot m u bound)) (sym (*ℤ-zero (h.den j)))
      (subst (λ x. pos 0 ≤ℤ x) same (times_nonneg e (dot m (h.nums j) bound) (weaken e over) (value_nonneg m bound basis h.nums h.den h.duals h.duals_den j h.tableau lj))))

  -- and is below 2 ^ 124 where the denominator is below 2 ^ 62
  pub row_value_low : IsPacking m bound is_column → ((i : ℕ) → i < m → is_column (basis i)) → IsNarrow e → unsigned_abs (dot m u bound) < 2 ^ 124
  row_value_low packing columns narrow =
      let at = value_within m bound is_column basis h.nums h.den h.duals h.duals_den j packing columns h.tableau lj in
      let k = at.0 in
      let up = le_times e (dot m (h.nums j) bound) (h.den j *ℤ bound k) (weaken e over) at.2 in
      low (dot m u bound) e (bound k) row_value_nonneg
      (le_cancel (h.den j) (dot m u bound) (e *ℤ bound k) (h.tableau.over j lj) (both same up (moved_out e (h.den j) (bound k)))) narrow (packing.bounds k at.1)
    where
      both : {x y z w : ℤ} → x ≡ y → x ≤ℤ z → z ≡ w → y ≤ℤ w
      both {x} {y} {z} {w} a b c = omega (arith, ints, a, b, c)
