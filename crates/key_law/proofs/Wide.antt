-- where a kept number is too wide, a kind holds of the whole basis
use Rattle.std.{proofs.Common.{◌≡◌, ◌≢◌, ℕ, ◌<◌, ◌≤◌, ◌+◌, ◌^◌, refl, sym, ap, ◌∙◌, arith, inl, inr, cond, ⊎_elim, subst, unsigned_abs, eq-eqb, ne_eqb, ℤ, pos, ◌-ℤ◌, ◌*ℤ◌, ◌<ℤ◌}, proofs.lemmas.Nat.Gcd.le_of_dvd}
use Rattle.net_core.proofs.Library.{◌∣◌, ints}
use Rattle.checked_fraction.{specs.Terms.{IsInLowestTerms, IsNarrow, combined, IsTooWide, IsFirstWide}, specs.declared.wide.WideNumber.WideNumber, proofs.Products.positive_product}
use Rattle.simplex_law.{specs.Terms.{dot, unit_vector, put, ColumnOf, IsRow, IsWide, IsRowOf, HoldsRow, HoldsProduct, HoldsCommon, IsPick}, proofs.Lemmas.{some_lowest, multiple, reduced_row, large_part, inverse_row, last_row, wide_multiple}}
use Rattle.key_law.{specs.Keys.{left_target, spread, AreRoles, AreKeys, IsBlockRow, key, key_part, left_column, block}, specs.KeyRows.{full_kept, full_prices, full_key, cost, key_nums, key_dot, HaveWeights, role_nums, AreKeyRows}, specs.Kept.IsKept, proofs.Spread.{is_spread, full_lowest}, proofs.Blocks.full_of, proofs.Kept.{unit_target, key_block, kept_row, prices_row, row_product, cost_product, key_row, key_row_product}, proofs.Turns.{next_other, next_prices, next_keys, some_pivot}}

-- a row whose link entries have a wide number is a wide row
found : {N : Type 0} (links demands : ℕ) (basis : ℕ → ColumnOf N) (full : ℕ → ℤ) (den : ℤ) (i : ℕ) (nums : ℕ → ℤ) (wide : WideNumber) → IsRowOf (links + demands) basis i full den
    → ((k : ℕ) → k < links → full k ≡ nums k) → IsFirstWide links nums den wide → HoldsRow (links + demands) basis i
found links demands basis full den i nums wide row same first = (
  full,
  den,
  row,
  ⊎_elim
      (λ number. inr (wide.at, more number.0, subst (λ x. 2 ^ 62 ≤ unsigned_abs x) (number.1 ∙ sym (same wide.at number.0)) first.is_wide))
      (λ last. inl (subst (λ x. 2 ^ 62 ≤ unsigned_abs x) last.1 first.is_wide))
      first.stands,
)
  where
    more : {a : ℕ} → a < links → a < links + demands
    more {a} l = omega (arith, l)

-- a row of the block that is too wide in lowest terms is a wide row of the whole basis
wide_row_of : {N : Type 0} (links demands : ℕ) (basis : ℕ → ColumnOf N) (place role : ℕ → ℕ) → AreRoles (links + demands) place role → AreKeys links demands basis place
    → (target raw : ℕ → ℤ) (whole : ℤ) (i : ℕ) (wide : WideNumber) → pos 0 <ℤ whole → IsBlockRow links demands basis place target raw whole
    → ((nums : ℕ → ℤ) (den : ℤ) → pos 0 <ℤ den → IsRow (links + demands) (λ j. (basis j).entry) target nums den → IsInLowestTerms (links + demands) nums den → IsRowOf (links + demands) basis i nums den)
    → IsTooWide links raw whole wide → HoldsRow (links + demands) basis i
wide_row_of links demands basis place role roles keys_are target raw whole i wide pw row to too =
    let nums = too.0 in let den = too.1 in
    let f = multiple links raw whole nums den pw too.2 in
    let low = reduced_row links (block links demands basis place) (λ j. left_target links demands (λ d. target (place (links + d))) ((basis (place j)).entry) (target (place j))) raw nums whole den f.0 f.1 row in
    let s = is_spread links demands (key_part links demands basis place) (λ d. target (place (links + d))) nums den in
    let full = spread links (key_part links demands basis place) (λ d. target (place (links + d))) nums den in
    found links demands basis full den i nums wide
    (to full den too.2.positive (full_of links demands basis place role target nums full den roles keys_are low s) (full_lowest links demands (key_part links demands basis place) (λ d. target (place (links + d))) nums den full s too.2.lowest))
    s.link too.3

module _ {N : Type 0} {links demands : ℕ} {bound : ℕ → ℤ} {basis : ℕ → ColumnOf N} {place role : ℕ → ℕ} {kept : ℕ → ℕ → ℤ} {den prices : ℕ → ℤ} {prices_den : ℤ}
    (is_column : ColumnOf N → Type 0) (h : IsKept links demands bound basis place role kept den prices prices_den) where
  abbrev m : ℕ
  m = links + demands

  -- a row of the block, and the prices, as evidence names them
  pub block_row : (i : ℕ) → i < links → IsRowOf m basis (place i) (full_kept links demands basis place (kept i) (den i)) (den i)
  block_row i l = inverse_row m bound is_column basis (place i) _ (den i) (h.roles.place_in i (omega (arith, l))) (h.over i l) (kept_row h i l)
      (full_lowest links demands (key_part links demands basis place) (λ d. pos 0) (kept i) (den i) _ (is_spread links demands (key_part links demands basis place) (λ d. pos 0) (kept i) (den i)) (h.lowest i l))

  pub price_row : IsRowOf m basis m (full_prices links demands basis place prices prices_den) prices_den
  price_row = last_row m bound is_column basis _ prices_den h.above (prices_row h)
      (full_lowest links demands (key_part links demands basis place) (λ d. (key links demands basis place d).gain) prices prices_den _
      (is_spread links demands (key_part links demands basis place) (λ d. (key links demands basis place d).gain) prices prices_den) h.prices_lowest)

  -- a wide product of a row of the block with what the keys leave of a column
  pub wide_kept_product : (i : ℕ) (c : ColumnOf N) → i < links → is_column c → IsWide (dot links (kept i) (left_column links demands basis place c.entry)) → HoldsProduct m is_column basis (place i) c.name
  wide_kept_product i c l is_c wide = (
    _,
    den i,
    c,
    block_row i l,
    is_c,
    refl,
    subst (λ t. 2 ^ 62 ≤ unsigned_abs (dot m (full_kept links demands basis place (kept i) (den i)) c.entry -ℤ cond t (den i *ℤ c.gain) (pos 0)))
        (sym (ne_eqb (place i) m (λ e. below (h.roles.place_in i (omega (arith, l))) e)))
        (subst (λ x. 2 ^ 62 ≤ unsigned_abs x) (sym (row_product h i c.entry) ∙ less_none (dot m (full_kept links demands basis place (kept i) (den i)) c.entry)) wide),
  )
    where
      less_none : (x : ℤ) → x ≡ x -ℤ pos 0
      less_none x = omega (arith, ints)

      below : {a b : ℕ} → a < b → a ≡ b → ⊥
      below {a} {b} lt e = omega (arith, lt, e)

  -- a wide cost
  pub wide_cost : (c : ColumnOf N) → is_column c → IsWide (cost links demands basis place prices prices_den c) → HoldsProduct m is_column basis m c.name
  wide_cost c is_c wide = (
    _,
    prices_den,
    c,
    price_row,
    is_c,
    refl,
    subst (λ t. 2 ^ 62 ≤ unsigned_abs (dot m (full_prices links demands basis place prices prices_den) c.entry -ℤ cond t (prices_den *ℤ c.gain) (pos 0))) (sym (eq-eqb m m refl))
        (subst (λ x. 2 ^ 62 ≤ unsigned_abs x) (sym (cost_product h c)) wide),
  )

  -- a wide price of a demand
  pub wide_demand : (d : ℕ) → d < demands → IsWide (full_prices links demands basis place prices prices_den (links + d)) → HoldsRow m basis m
  wide_demand d l wide = (_, prices_den, price_row, inr (links + d, omega (arith, l), wide))

  -- a wide number that divides each common multiple of the block's denominators
  pub wide_block_common : (part : ℕ) → ((multiple : ℕ) → ((i : ℕ) → i < links → unsigned_abs (den i) ∣ multiple) → part ∣ multiple) → 2 ^ 62 ≤ part → HoldsCommon m basis
  wide_block_common part divides high multiple positive all =
      let low : part ≤ multiple = le_of_dvd positive (divides multiple (λ i l. all (place i) _ (den i) (block_row i l))) in
      omega (arith, low, high)

  -- the row of a key over a common denominator of its demand's columns
  module _ (weight : ℕ → ℤ) (all : ℤ) (d : ℕ) (l : d < demands) (positive : pos 0 <ℤ all) (weights : HaveWeights links demands basis place den weight d all) where
    in_place : place (links + d) < m
    in_place = h.roles.place_in (links + d) (omega (arith, l))

    -- a product with it that is wide whatever lowest terms divide it by
    pub wide_key_product : (c : ColumnOf N) → IsNarrow all → is_column c → 2 ^ 124 ≤ unsigned_abs (key_dot links demands basis place kept weight all d c.entry) → HoldsProduct m is_column basis (place (links + d)) c.name
    wide_key_product c narrow is_c wide = wide_multiple m bound is_column basis (place (links + d)) _ all c in_place positive narrow (key_row h weight all d l weights) is_c
        (subst (λ x. 2 ^ 124 ≤ unsigned_abs x) (sym (key_row_product h weight all d l c.entry)) wide)

    -- a row that is too wide in lowest terms
    pub wide_key_row : (wide : WideNumber) → IsTooWide links (key_nums links demands basis place kept weight d) all wide → HoldsRow m basis (place (links + d))
    wide_key_row wide too = wide_row_of links demands basis place role h.roles h.keys (unit_vector (place (links + d))) _ all (place (links + d)) wide positive
        (key_block links demands basis place role h.roles h.keys kept den weight all (λ i li j lj. h.rows i j li lj) d l weights)
        (λ nums e pe row low. inverse_row m bound is_column basis (place (links + d)) nums e in_place pe row low)
        too

    -- a number of it that is wide whatever lowest terms divide it by
    pub wide_key_number : (x : ℕ) → x < links → IsNarrow all → 2 ^ 124 ≤ unsigned_abs (key_nums links demands basis place kept weight d x) → HoldsRow m basis (place (links + d))
    wide_key_number x lx narrow high =
        let full = full_key links demands basis place d (key_nums links demands basis place kept weight d) all in
        let low = some_lowest m full all positive in
        let is = reduced_row m (λ j. (basis j).entry) (unit_vector (place (links + d))) full low.0 all low.1 (pos low.2) low.3 (key_row h weight all d l weights) in
        let here : key_nums links demands basis place kept weight d x ≡ pos low.2 *ℤ low.0 x =
        sym ((is_spread links demands (key_part links demands basis place) (unit_vector d) (key_nums links demands basis place kept weight d) all).link x lx) ∙ low.3.of_nums x (omega (arith, lx)) in (
          low.0,
          low.1,
          inverse_row m bound is_column basis (place (links + d)) low.0 low.1 in_place low.4 is low.5,
          inr (
            x,
            omega (arith, lx),
            large_part low.2 (low.1) all (low.0 x) low.4 (sym low.6) narrow (subst (λ y. 2 ^ 124 ≤ unsigned_abs y) here high),
          ),
        )

  -- after a turn in which a column of the block leaves
  module _ {of_keys : ℕ → ℕ → ℤ} {of_den : ℕ → ℤ} (k : AreKeyRows links demands basis place of_keys of_den) (c : ColumnOf N) (r : ℕ) (inside : r < links + demands)
      (pick : IsPick (links + demands) bound (λ j. role_nums links demands basis place kept den of_keys of_den (role j)) (full_prices links demands basis place prices prices_den) prices_den c (place r)) (rl : r < links) where
    abbrev after : ℕ → ColumnOf N
    after = put basis (place r) c

    abbrev q : ℤ
    q = dot links (kept r) (left_column links demands basis place c.entry)

    keys_are : AreKeys links demands after place
    keys_are = next_keys h k c r inside pick rl

    -- a row of the block that is too wide
    pub wide_turned : (i : ℕ) (wide : WideNumber) → i < links → i ≢ r
        → IsTooWide links (combined (kept i) (dot links (kept i) (left_column links demands basis place c.entry)) (kept r) q) (den i *ℤ q) wide
        → HoldsRow m after (place i)
    wide_turned i wide l ne too = wide_row_of links demands after place role h.roles keys_are (unit_vector (place i)) _ (den i *ℤ q) (place i) wide
        (positive_product (den i) q (h.over i l) (some_pivot h k c r inside pick rl))
        (λ j lj. next_other h k c r inside pick rl i l ne j lj ∙ ap (λ x. (den i *ℤ q) *ℤ x) (sym (unit_target links demands after place role h.roles keys_are i j l lj)))
        (λ nums e pe row low. inverse_row m bound is_column after (place i) nums e (h.roles.place_in i (omega (arith, l))) pe row low)
        too

    -- prices that are
    pub wide_turned_prices : (wide : WideNumber) → IsTooWide links (combined prices (cost links demands basis place prices prices_den c) (kept r) q) (prices_den *ℤ q) wide → HoldsRow m after m
    wide_turned_prices wide too = wide_row_of links demands after place role h.roles keys_are (λ j. (after j).gain) _ (prices_den *ℤ q) m wide
        (positive_product prices_den q h.above (some_pivot h k c r inside pick rl)) (next_prices h k c r inside pick rl)
        (λ nums e pe row low. last_row m bound is_column after nums e pe row low)
        too
