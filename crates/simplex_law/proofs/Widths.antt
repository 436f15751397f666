-- where a number is too wide, its kind holds of the basis
use Rattle.std.{proofs.Common.{◌≡◌, ◌≢◌, ℕ, ◌<◌, ◌≤◌, ◌-◌, ◌*◌, ◌^◌, refl, sym, ap, ◌∙◌, arith, inl, inr, ⊎_elim, cond, subst, unsigned_abs, eq-eqb, ne_eqb, ℤ, pos, ◌-ℤ◌, ◌*ℤ◌, ◌<ℤ◌}, proofs.lemmas.Nat.Gcd.le_of_dvd}
use Rattle.net_core.{proofs.Library.{cases_lt, ◌∣◌, ints, unsigned_abs-mul, mul-le}, specs.Terms.sum_below}
use Rattle.checked_fraction.{specs.Terms.{IsInLowestTerms, IsNarrow, combined, IsTooWide, IsFirstWide}, specs.declared.wide.WideNumber.WideNumber, proofs.Products.positive_product}
use Rattle.simplex_law.{specs.Sums.{dot, unit_vector, put}, specs.Programs.ColumnOf, specs.Bases.IsRow, specs.Evidence.{IsWide, IsRowOf, HoldsRow, HoldsProduct, HoldsSum, HoldsCommon}, specs.inner.Tableaux.IsTableau, specs.inner.Pivots.IsPick, proofs.LowestTerms.some_lowest, proofs.Sums.{sum-same, dot-times}, proofs.Rows.{multiple, reduced_row}, proofs.Turned.{other_row, objective_row}}

-- a multiple by a divisor of a narrow number that has 2 ^ 124 or more is one of a wide number
pub large_part : (g : ℕ) (den whole x : ℤ) → pos 0 <ℤ den → whole ≡ pos g *ℤ den → IsNarrow whole → 2 ^ 124 ≤ unsigned_abs (pos g *ℤ x) → 2 ^ 62 ≤ unsigned_abs x
large_part g den whole x pd e narrow high = large g (unsigned_abs x) (subst (λ y. 2 ^ 124 ≤ y) (unsigned_abs-mul (pos g) x) high)
    (short (unsigned_abs whole) (unsigned_abs den) narrow (ap unsigned_abs e ∙ unsigned_abs-mul (pos g) den) (some_size den pd))
  where
    some_size : (den : ℤ) → pos 0 <ℤ den → 1 ≤ unsigned_abs den
    some_size den pd = omega (arith, ints, pd)

    short : (w d : ℕ) → w < 2 ^ 62 → w ≡ g * d → 1 ≤ d → g < 2 ^ 62
    short w d l e s = let t : g * 1 ≤ g * d = mul-le g 1 g d (omega arith) s in omega (arith, t, e, l)

    large : (g x : ℕ) → 2 ^ 124 ≤ g * x → g < 2 ^ 62 → 2 ^ 62 ≤ x
    large g x h l = ⊎_elim
        (λ small. let t : g * x ≤ (2 ^ 62 - 1) * (2 ^ 62 - 1) = mul-le g x (2 ^ 62 - 1) (2 ^ 62 - 1) (omega (arith, l)) (omega (arith, small)) in absurd (omega (arith, t, h)))
        (λ ge. ge)
        (cases_lt x (2 ^ 62))

module _ {N : Type 0} (m : ℕ) (bound : ℕ → ℤ) (is_column : ColumnOf N → Type 0) where
  -- a row of the inverse, and the objective row, in lowest terms
  pub inverse_row : (basis : ℕ → ColumnOf N) (i : ℕ) (nums : ℕ → ℤ) (den : ℤ) → i < m → pos 0 <ℤ den → IsRow m (λ j. (basis j).entry) (unit_vector i) nums den → IsInLowestTerms m nums den
      → IsRowOf m basis i nums den
  inverse_row basis i nums den lt pd row lowest = record {
    place = omega (arith, lt);
    row = (pd, λ j lj. row j lj ∙ ap (λ t. den *ℤ cond t (basis j).gain (unit_vector i j)) (sym (ne_eqb i m (λ e. omega (arith, e, lt)))));
    lowest = lowest;
  }

  pub last_row : (basis : ℕ → ColumnOf N) (nums : ℕ → ℤ) (den : ℤ) → pos 0 <ℤ den → IsRow m (λ j. (basis j).entry) (λ j. (basis j).gain) nums den → IsInLowestTerms m nums den
      → IsRowOf m basis m nums den
  last_row basis nums den pd row lowest = record {
    place = omega arith;
    row = (pd, λ j lj. row j lj ∙ ap (λ t. den *ℤ cond t (basis j).gain (unit_vector m j)) (sym (eq-eqb m m refl)));
    lowest = lowest;
  }

  state_row : (basis : ℕ → ColumnOf N) (nums : ℕ → ℕ → ℤ) (den duals : ℕ → ℤ) (duals_den : ℤ) (i : ℕ) → IsTableau m bound basis nums den duals duals_den → i < m → IsInLowestTerms m (nums i) (den i)
      → IsRowOf m basis i (nums i) (den i)
  state_row basis nums den duals duals_den i s lt lowest = inverse_row basis i (nums i) (den i) lt (s.over i lt) (s.rows i lt) lowest

  state_objective : (basis : ℕ → ColumnOf N) (nums : ℕ → ℕ → ℤ) (den duals : ℕ → ℤ) (duals_den : ℤ) → IsTableau m bound basis nums den duals duals_den → IsInLowestTerms m duals duals_den
      → IsRowOf m basis m duals duals_den
  state_objective basis nums den duals duals_den s lowest = last_row basis duals duals_den s.above s.objective lowest

  found : (basis : ℕ → ColumnOf N) (i : ℕ) (nums : ℕ → ℤ) (den : ℤ) (wide : WideNumber) → IsRowOf m basis i nums den
      → IsFirstWide m nums den wide → HoldsRow m basis i
  found basis i nums den wide row first = (
    nums,
    den,
    row,
    ⊎_elim
        (λ number. inr (wide.at, number.0, subst (λ x. 2 ^ 62 ≤ unsigned_abs x) number.1 first.is_wide))
        (λ last. inl (subst (λ x. 2 ^ 62 ≤ unsigned_abs x) last.1 first.is_wide))
        first.stands,
  )

  -- a row that can't be combined with the pivot's row is a wide row of the next basis
  pub wide_row : (basis : ℕ → ColumnOf N) (nums : ℕ → ℕ → ℤ) (den duals : ℕ → ℤ) (duals_den : ℤ) (c : ColumnOf N) (r i : ℕ) (wide : WideNumber)
      → IsTableau m bound basis nums den duals duals_den → IsPick m bound nums duals duals_den c r → i < m → i ≢ r
      → IsTooWide m (combined (nums i) (dot m (nums i) c.entry) (nums r) (dot m (nums r) c.entry)) (den i *ℤ dot m (nums r) c.entry) wide
      → HoldsRow m (put basis r c) i
  wide_row basis nums den duals duals_den c r i wide s k lt ne too =
      let f = multiple m _ _ too.0 too.1 (positive_product (den i) (dot m (nums r) c.entry) (s.over i lt) k.positive) too.2 in
      let row = reduced_row m (λ j. (put basis r c j).entry) (unit_vector i) _ too.0 _ too.1 f.0 f.1 (other_row m bound basis nums den duals duals_den c r i s k lt ne) in
      found (put basis r c) i too.0 too.1 wide (inverse_row (put basis r c) i too.0 too.1 lt too.2.positive row too.2.lowest) too.3

  -- duals that can't be combined with the pivot's row are a wide row of the next basis
  pub wide_duals : (basis : ℕ → ColumnOf N) (nums : ℕ → ℕ → ℤ) (den duals : ℕ → ℤ) (duals_den : ℤ) (c : ColumnOf N) (r : ℕ) (wide : WideNumber)
      → IsTableau m bound basis nums den duals duals_den → IsPick m bound nums duals duals_den c r
      → IsTooWide m (combined duals (dot m duals c.entry -ℤ (duals_den *ℤ c.gain)) (nums r) (dot m (nums r) c.entry)) (duals_den *ℤ dot m (nums r) c.entry) wide
      → HoldsRow m (put basis r c) m
  wide_duals basis nums den duals duals_den c r wide s k too =
      let f = multiple m _ _ too.0 too.1 (positive_product duals_den (dot m (nums r) c.entry) s.above k.positive) too.2 in
      let row = reduced_row m (λ j. (put basis r c j).entry) (λ j. (put basis r c j).gain) _ too.0 _ too.1 f.0 f.1 (objective_row m bound basis nums den duals duals_den c r s k) in
      found (put basis r c) m too.0 too.1 wide (last_row (put basis r c) too.0 too.1 too.2.positive row too.2.lowest) too.3

  -- a wide product of a row of the inverse, and of the objective row
  pub wide_product : (basis : ℕ → ColumnOf N) (nums : ℕ → ℕ → ℤ) (den duals : ℕ → ℤ) (duals_den : ℤ) (c : ColumnOf N) (i : ℕ) → IsTableau m bound basis nums den duals duals_den → i < m → IsInLowestTerms m (nums i) (den i)
      → is_column c → IsWide (dot m (nums i) c.entry) → HoldsProduct m is_column basis i c.name
  wide_product basis nums den duals duals_den c i s lt lowest is_c wide = (
    nums i,
    den i,
    c,
    state_row basis nums den duals duals_den i s lt lowest,
    is_c,
    refl,
    subst (λ t. 2 ^ 62 ≤ unsigned_abs (dot m (nums i) c.entry -ℤ cond t (den i *ℤ c.gain) (pos 0))) (sym (ne_eqb i m (λ e. omega (arith, e, lt))))
        (subst (λ x. 2 ^ 62 ≤ unsigned_abs x) (less_none (dot m (nums i) c.entry)) wide),
  )
    where
      less_none : (x : ℤ) → x ≡ x -ℤ pos 0
      less_none x = omega (arith, ints)

  pub wide_price : (basis : ℕ → ColumnOf N) (nums : ℕ → ℕ → ℤ) (den duals : ℕ → ℤ) (duals_den : ℤ) (c : ColumnOf N) → IsTableau m bound basis nums den duals duals_den → IsInLowestTerms m duals duals_den
      → is_column c → IsWide (dot m duals c.entry -ℤ (duals_den *ℤ c.gain)) → HoldsProduct m is_column basis m c.name
  wide_price basis nums den duals duals_den c s lowest is_c wide = (
    duals,
    duals_den,
    c,
    state_objective basis nums den duals duals_den s lowest,
    is_c,
    refl,
    subst (λ t. 2 ^ 62 ≤ unsigned_abs (dot m duals c.entry -ℤ cond t (duals_den *ℤ c.gain) (pos 0))) (sym (eq-eqb m m refl)) wide,
  )

  -- a wide sum of a row of the inverse, and of the objective row
  pub wide_sum : (basis : ℕ → ColumnOf N) (nums : ℕ → ℕ → ℤ) (den duals : ℕ → ℤ) (duals_den : ℤ) (i : ℕ) → IsTableau m bound basis nums den duals duals_den → i < m → IsInLowestTerms m (nums i) (den i)
      → 2 ^ 126 ≤ sum_below m (λ k. unsigned_abs (nums i k) * unsigned_abs (bound k)) → HoldsSum m bound basis i
  wide_sum basis nums den duals duals_den i s lt lowest high = (nums i, den i, state_row basis nums den duals duals_den i s lt lowest, high)

  pub wide_value : (basis : ℕ → ColumnOf N) (nums : ℕ → ℕ → ℤ) (den duals : ℕ → ℤ) (duals_den : ℤ) → IsTableau m bound basis nums den duals duals_den → IsInLowestTerms m duals duals_den
      → 2 ^ 126 ≤ sum_below m (λ k. unsigned_abs (duals k) * unsigned_abs (bound k)) → HoldsSum m bound basis m
  wide_value basis nums den duals duals_den s lowest high = (duals, duals_den, state_objective basis nums den duals duals_den s lowest, high)

  -- a number that divides each common multiple of the denominators is wide
  pub wide_common : (basis : ℕ → ColumnOf N) (nums : ℕ → ℕ → ℤ) (den duals : ℕ → ℤ) (duals_den : ℤ) (part : ℕ) → IsTableau m bound basis nums den duals duals_den
      → ((i : ℕ) → i < m → IsInLowestTerms m (nums i) (den i)) → IsInLowestTerms m duals duals_den
      → ((multiple : ℕ) → ((i : ℕ) → i < m → unsigned_abs (den i) ∣ multiple) → unsigned_abs duals_den ∣ multiple → part ∣ multiple)
      → 2 ^ 62 ≤ part → HoldsCommon m basis
  wide_common basis nums den duals duals_den part s lowest lowest_duals divides high multiple some all =
      let low : part ≤ multiple = le_of_dvd some (divides multiple
      (λ i l. all i (nums i) (den i) (state_row basis nums den duals duals_den i s l (lowest i l)))
      (all m duals duals_den (state_objective basis nums den duals duals_den s lowest_duals))) in
      omega (arith, low, high)

  -- a product that is wide for its row's lowest terms, from any multiple of the row whose denominator is narrow
  pub wide_multiple : (basis : ℕ → ColumnOf N) (i : ℕ) (raw : ℕ → ℤ) (whole : ℤ) (c : ColumnOf N) → i < m → pos 0 <ℤ whole → IsNarrow whole → IsRow m (λ j. (basis j).entry) (unit_vector i) raw whole
      → is_column c → 2 ^ 124 ≤ unsigned_abs (dot m raw c.entry) → HoldsProduct m is_column basis i c.name
  wide_multiple basis i raw whole c lt pw narrow row is_c wide =
      let low = some_lowest m raw whole pw in
      let nums = low.0 in let den = low.1 in let g = low.2 in
      let is = reduced_row m (λ j. (basis j).entry) (unit_vector i) raw nums whole den (pos g) low.3 row in
      let product : dot m raw c.entry ≡ pos g *ℤ dot m nums c.entry = sum-same m _ _ (λ k l. ap (λ s. s *ℤ c.entry k) (low.3.of_nums k l)) ∙ dot-times m (pos g) nums c.entry in (
        nums,
        den,
        c,
        inverse_row basis i nums den lt low.4 is low.5,
        is_c,
        refl,
        subst (λ t. 2 ^ 62 ≤ unsigned_abs (dot m nums c.entry -ℤ cond t (den *ℤ c.gain) (pos 0))) (sym (ne_eqb i m (λ e. omega (arith, e, lt))))
            (subst (λ x. 2 ^ 62 ≤ unsigned_abs x) (less_none (dot m nums c.entry))
            (large_part g den whole (dot m nums c.entry) low.4 (sym low.6) narrow (subst (λ x. 2 ^ 124 ≤ unsigned_abs x) product wide))),
      )
    where
      less_none : (x : ℤ) → x ≡ x -ℤ pos 0
      less_none x = omega (arith, ints)
