-- the rows of the whole inverse, from those of the block
use Rattle.std.proofs.Common.{◌≡◌, ◌≢◌, ℕ, ◌<◌, ◌+◌, sym, ap, ◌∙◌, arith, ⊎_elim, subst, ℤ, pos, ◌+ℤ◌, ◌-ℤ◌, ◌*ℤ◌}
use Rattle.net_core.proofs.Library.{cases_eq, *ℤ_comm, *ℤ-zero, zero-*ℤ, ints}
use Rattle.simplex_law.{specs.Terms.{int_sum, dot, unit_vector, ColumnOf, IsRow}, proofs.Lemmas.{minus_left, distribute_minus, sum-same, sum-none, sum-unit, sum-one, sum-minus, unit-same, unit-other, priced}}
use Rattle.checked_fraction.proofs.Products.{regroup}
use Rattle.key_law.{specs.Keys.{left_target, IsSpread, AreRoles, AreKeys, IsBlockRow, key, key_part, left_column, block}, specs.KeyRows.{full_kept, full_prices, full_key, cost, key_times, key_nums, key_dot, HaveWeights}, specs.Kept.IsKept, proofs.Spread.{dot-spread, is_spread}, proofs.Blocks.{full_of, block_of}}

-- places are apart as roles keys_are
pub unit_place : (m : ℕ) (place role : ℕ → ℕ) (r s : ℕ) → AreRoles m place role → r < m → s < m → unit_vector (place r) (place s) ≡ unit_vector r s
unit_place m place role r s roles lr ls = ⊎_elim
    (λ e. subst (λ x. unit_vector (place r) (place x) ≡ unit_vector r x) e (unit-same (place r) ∙ sym (unit-same r)))
    (λ ne. unit-other (place r) (place s) (λ e. ne (sym (roles.there r lr) ∙ (ap role e ∙ roles.there s ls))) ∙ sym (unit-other r s ne))
    (cases_eq r s)

apart : (i d links : ℕ) → i < links → i ≢ links + d
apart i d links l e = omega (arith, l, e)

-- a row is spread for targets that agree
pub same_target : (links demands : ℕ) (keys : ℕ → ℕ → ℤ) (t s nums : ℕ → ℤ) (den : ℤ) (full : ℕ → ℤ) → ((d : ℕ) → d < demands → t d ≡ s d) → IsSpread links demands keys t nums den full → IsSpread links demands keys s nums den full
same_target links demands keys t s nums den full e h = record {
  link = h.link;
  demand = λ d l. h.demand d l ∙ ap (λ x. (den *ℤ x) -ℤ dot links nums (keys d)) (e d l);
}

sum-none-of : (n : ℕ) (f : ℕ → ℤ) → ((k : ℕ) → k < n → f k ≡ pos 0) → int_sum n f ≡ pos 0
sum-none-of n f e = sum-same n f (λ k. pos 0) e ∙ sum-none n

module _ {N : Type 0} (links demands : ℕ) (basis : ℕ → ColumnOf N) (place role : ℕ → ℕ) (roles : AreRoles (links + demands) place role) (keys_are : AreKeys links demands basis place) where
  -- what the keys leave of the target of row i of the block
  pub unit_target : (i j : ℕ) → i < links → j < links
      → left_target links demands (λ d. unit_vector (place i) (place (links + d))) ((basis (place j)).entry) (unit_vector (place i) (place j)) ≡ unit_vector i j
  unit_target i j li lj = less _ (unit_place (links + demands) place role i j roles (omega (arith, li)) (omega (arith, lj)))
      (sum-none-of demands _ (λ d l. ap (λ x. (basis (place j)).entry (links + d) *ℤ x)
      (unit_place (links + demands) place role i (links + d) roles (omega (arith, li)) (omega (arith, l)) ∙ unit-other i (links + d) (apart i d links li)) ∙ *ℤ-zero ((basis (place j)).entry (links + d))))
    where
      less : (s : ℤ) {x y : ℤ} → x ≡ y → s ≡ pos 0 → x -ℤ s ≡ y
      less s {x} {y} e z = omega (arith, ints, e, z)

  -- a row of the inverse of the block is one of the whole inverse
  pub inverse_full : (i : ℕ) (nums : ℕ → ℤ) (den : ℤ) → i < links → IsRow links (block links demands basis place) (unit_vector i) nums den
      → IsRow (links + demands) (λ j. (basis j).entry) (unit_vector (place i)) (full_kept links demands basis place nums den) den
  inverse_full i nums den li row = full_of links demands basis place role (unit_vector (place i)) nums (full_kept links demands basis place nums den) den roles keys_are
      (λ j lj. row j lj ∙ ap (λ x. den *ℤ x) (sym (unit_target i j li lj)))
      (same_target links demands (key_part links demands basis place) (λ d. pos 0) (λ d. unit_vector (place i) (place (links + d))) nums den (full_kept links demands basis place nums den)
      (λ d l. sym (unit_place (links + demands) place role i (links + d) roles (omega (arith, li)) (omega (arith, l)) ∙ unit-other i (links + d) (apart i d links li)))
      (is_spread links demands (key_part links demands basis place) (λ d. pos 0) nums den))

  -- and back
  pub inverse_block : (i : ℕ) (full : ℕ → ℤ) (den : ℤ) → i < links → IsRow (links + demands) (λ j. (basis j).entry) (unit_vector (place i)) full den
      → IsRow links (block links demands basis place) (unit_vector i) full den
  inverse_block i full den li row j lj = block_of links demands basis place role (unit_vector (place i)) full den roles keys_are row j lj ∙ ap (λ x. den *ℤ x) (unit_target i j li lj)

  -- prices of the links give those of all rows
  pub prices_full : (prices : ℕ → ℤ) (den : ℤ) → IsBlockRow links demands basis place (λ j. (basis j).gain) prices den
      → IsRow (links + demands) (λ j. (basis j).entry) (λ j. (basis j).gain) (full_prices links demands basis place prices den) den
  prices_full prices den row = full_of links demands basis place role (λ j. (basis j).gain) prices (full_prices links demands basis place prices den) den roles keys_are row
      (is_spread links demands (key_part links demands basis place) (λ d. (key links demands basis place d).gain) prices den)

  -- the product of such a row with a column is that of its link entries with what the keys leave of the column
  pub kept_product : (nums : ℕ → ℤ) (den : ℤ) (a : ℕ → ℤ) → dot (links + demands) (full_kept links demands basis place nums den) a ≡ dot links nums (left_column links demands basis place a)
  kept_product nums den a =
      dot-spread links demands (key_part links demands basis place) (λ d. pos 0) nums den (full_kept links demands basis place nums den) a (is_spread links demands (key_part links demands basis place) (λ d. pos 0) nums den)
      ∙ nothing (sum-none-of demands (λ d. a (links + d) *ℤ pos 0) (λ d l. *ℤ-zero (a (links + d))))
    where
      nothing : {x s : ℤ} → s ≡ pos 0 → x +ℤ (den *ℤ s) ≡ x
      nothing {x} {s} e = ap (λ z. x +ℤ (den *ℤ z)) e ∙ omega (arith, ints)

  -- and what the prices take of a column, less its gain, is its cost
  pub price_product : (prices : ℕ → ℤ) (den : ℤ) (c : ColumnOf N)
      → dot (links + demands) (full_prices links demands basis place prices den) c.entry -ℤ (den *ℤ c.gain) ≡ cost links demands basis place prices den c
  price_product prices den c =
      rest (dot links prices (left_column links demands basis place c.entry)) den c.gain (int_sum demands (λ d. c.entry (links + d) *ℤ (key links demands basis place d).gain))
      (dot-spread links demands (key_part links demands basis place) (λ d. (key links demands basis place d).gain) prices den (full_prices links demands basis place prices den) c.entry
      (is_spread links demands (key_part links demands basis place) (λ d. (key links demands basis place d).gain) prices den))
    where
      rest : (x den g s : ℤ) {f : ℤ} → f ≡ x +ℤ (den *ℤ s) → f -ℤ (den *ℤ g) ≡ x -ℤ (den *ℤ (g -ℤ s))
      rest x den g s {f} e = omega (arith, ints, e, minus_left g s den)

  module _ (kept : ℕ → ℕ → ℤ) (den weight : ℕ → ℤ) (all : ℤ)
      (rows : (i : ℕ) → i < links → IsRow links (block links demands basis place) (unit_vector i) (kept i) (den i)) where
    abbrev times : ℕ → ℕ → ℤ
    times d = key_times links demands basis place weight d

    -- the product of the link entries of a key's row
    pub key_nums_product : (d : ℕ) (x : ℕ → ℤ) → dot links (key_nums links demands basis place kept weight d) x ≡ pos 0 -ℤ int_sum links (λ i. times d i *ℤ dot links (kept i) x)
    key_nums_product d x =
        sum-same links _ (λ k. (pos 0) -ℤ (x k *ℤ int_sum links (λ i. times d i *ℤ kept i k))) (λ k l. flip (int_sum links (λ i. times d i *ℤ kept i k)) (x k))
        ∙ (sum-minus links (λ k. pos 0) (λ k. x k *ℤ int_sum links (λ i. times d i *ℤ kept i k))
        ∙ (ap (λ s. s -ℤ int_sum links (λ k. x k *ℤ int_sum links (λ i. times d i *ℤ kept i k))) (sum-none links)
        ∙ ap (λ s. pos 0 -ℤ s) (sym (priced links links (times d) x kept)
        ∙ sum-same links _ _ (λ i l. ap (λ s. times d i *ℤ s) (sum-same links _ _ (λ k lk. *ℤ_comm (x k) (kept i k)))))))
      where
        flip : (s x : ℤ) → (pos 0 -ℤ s) *ℤ x ≡ pos 0 -ℤ (x *ℤ s)
        flip s x = distribute_minus (pos 0) s x ∙ omega (arith, ints, *ℤ_comm s x)

    shifted : (d e : ℕ) → d < demands → e < demands → unit_vector d e ≡ unit_vector (place (links + d)) (place (links + e))
    shifted d e ld le = ⊎_elim
        (λ same. subst (λ x. unit_vector d x ≡ unit_vector (place (links + d)) (place (links + x))) same (unit-same d ∙ sym (unit-same (place (links + d)))))
        (λ ne. unit-other d e ne ∙ sym (unit_place (links + demands) place role (links + d) (links + e) roles (omega (arith, ld)) (omega (arith, le))
        ∙ unit-other (links + d) (links + e) (λ f. ne (omega (arith, f)))))
        (cases_eq d e)

    taken : (d j : ℕ) → HaveWeights links demands basis place den weight d all → j < links → int_sum links (λ i. times d i *ℤ dot links (kept i) (block links demands basis place j)) ≡ (basis (place j)).entry (links + d) *ℤ all
    taken d j weights lj = sum-one links j _ ((basis (place j)).entry (links + d) *ℤ all) lj
        (λ i li ne. ap (λ s. times d i *ℤ s) (rows i li j lj ∙ (ap (λ s. den i *ℤ s) (unit-other i j ne) ∙ *ℤ-zero (den i))) ∙ *ℤ-zero (times d i))
        (ap (λ s. times d j *ℤ s) (rows j lj j lj ∙ (ap (λ s. den j *ℤ s) (unit-same j) ∙ one (den j)))
        ∙ (regroup ((basis (place j)).entry (links + d)) (weight j) (den j) ∙ weights j lj))
      where
        one : (x : ℤ) → x *ℤ pos 1 ≡ x
        one x = omega (arith, ints)

    -- and their products with the block
    pub key_at_block : (d j : ℕ) → HaveWeights links demands basis place den weight d all → j < links
        → dot links (key_nums links demands basis place kept weight d) (block links demands basis place j) ≡ pos 0 -ℤ ((basis (place j)).entry (links + d) *ℤ all)
    key_at_block d j weights lj = key_nums_product d (block links demands basis place j) ∙ ap (λ s. pos 0 -ℤ s) (taken d j weights lj)

    -- they are the key's row of the block, and of the whole basis
    pub key_block : (d : ℕ) → d < demands → HaveWeights links demands basis place den weight d all → IsBlockRow links demands basis place (unit_vector (place (links + d))) (key_nums links demands basis place kept weight d) all
    key_block d ld weights j lj = key_at_block d j weights lj ∙ (less ((basis (place j)).entry (links + d)) ∙ ap (λ x. all *ℤ x) (sym (left j lj)))
      where
        less : (a : ℤ) → pos 0 -ℤ (a *ℤ all) ≡ all *ℤ (pos 0 -ℤ a)
        less a = omega (arith, ints, minus_left (pos 0) a all, *ℤ_comm a all)

        left : (j : ℕ) → j < links → left_target links demands (λ e. unit_vector (place (links + d)) (place (links + e))) ((basis (place j)).entry) (unit_vector (place (links + d)) (place j)) ≡ pos 0 -ℤ (basis (place j)).entry (links + d)
        left j lj = both
            (unit_place (links + demands) place role (links + d) j roles (omega (arith, ld)) (omega (arith, lj)) ∙ unit-other (links + d) j (λ e. omega (arith, e, lj)))
            (sum-same demands _ (λ e. (basis (place j)).entry (links + e) *ℤ unit_vector d e) (λ e le. ap (λ x. (basis (place j)).entry (links + e) *ℤ x) (sym (shifted d e ld le)))
            ∙ sum-unit demands d (λ e. (basis (place j)).entry (links + e)) ld)
          where
            both : {x y s t : ℤ} → x ≡ y → s ≡ t → x -ℤ s ≡ y -ℤ t
            both {x} {y} {s} {t} e f = omega (arith, ints, e, f)

    pub key_full : (d : ℕ) → d < demands → HaveWeights links demands basis place den weight d all
        → IsRow (links + demands) (λ j. (basis j).entry) (unit_vector (place (links + d))) (full_key links demands basis place d (key_nums links demands basis place kept weight d) all) all
    key_full d ld weights = full_of links demands basis place role (unit_vector (place (links + d))) (key_nums links demands basis place kept weight d)
        (full_key links demands basis place d (key_nums links demands basis place kept weight d) all) all roles keys_are (key_block d ld weights)
        (same_target links demands (key_part links demands basis place) (unit_vector d) (λ e. unit_vector (place (links + d)) (place (links + e))) _ all _
        (λ e le. shifted d e ld le) (is_spread links demands (key_part links demands basis place) (unit_vector d) (key_nums links demands basis place kept weight d) all))

    -- the product of that with a column, or with the bounds, by the rows of the demand's columns
    pub key_product : (d : ℕ) (a : ℕ → ℤ) → d < demands
        → dot (links + demands) (full_key links demands basis place d (key_nums links demands basis place kept weight d) all) a
        ≡ key_dot links demands basis place kept weight all d a
    key_product d a ld =
        dot-spread links demands (key_part links demands basis place) (unit_vector d) (key_nums links demands basis place kept weight d) all _ a
        (is_spread links demands (key_part links demands basis place) (unit_vector d) (key_nums links demands basis place kept weight d) all)
        ∙ together _ _ _ _ (key_nums_product d (left_column links demands basis place a)) (sum-unit demands d (λ e. a (links + e)) ld)
      where
        together : (x s u v : ℤ) → x ≡ pos 0 -ℤ s → u ≡ v → x +ℤ (all *ℤ u) ≡ (all *ℤ v) -ℤ s
        together x s u v e f = ap (λ z. x +ℤ (all *ℤ z)) f ∙ omega (arith, ints, e)

-- a demand with no column in the block: any weights and any denominator do, and its key's row takes nothing from the block's
module _ {N : Type 0} (links demands : ℕ) (basis : ℕ → ColumnOf N) (place : ℕ → ℕ) (weight : ℕ → ℤ) (all : ℤ) (d : ℕ) (alone : (j : ℕ) → j < links → (basis (place j)).entry (links + d) ≡ pos 0) where
  pub alone_weights : (den : ℕ → ℤ) → HaveWeights links demands basis place den weight d all
  alone_weights den i l = ap (λ x. x *ℤ (weight i *ℤ den i)) (alone i l) ∙ (zero-*ℤ (weight i *ℤ den i) ∙ sym (ap (λ x. x *ℤ all) (alone i l) ∙ zero-*ℤ all))

  pub alone_key_dot : (kept : ℕ → ℕ → ℤ) (a : ℕ → ℤ) → key_dot links demands basis place kept weight all d a ≡ all *ℤ a (links + d)
  alone_key_dot kept a = nothing (sum-none-of links _ (λ i l. ap (λ x. (x *ℤ weight i) *ℤ dot links (kept i) (left_column links demands basis place a)) (alone i l)
      ∙ (ap (λ x. x *ℤ dot links (kept i) (left_column links demands basis place a)) (zero-*ℤ (weight i)) ∙ zero-*ℤ (dot links (kept i) (left_column links demands basis place a)))))
    where
      nothing : {x s : ℤ} → s ≡ pos 0 → x -ℤ s ≡ x
      nothing {x} {s} e = omega (arith, ints, e)

-- a row of the block that is kept, as a row of the inverse, and its products
module _ {N : Type 0} {links demands : ℕ} {bound : ℕ → ℤ} {basis : ℕ → ColumnOf N} {place role : ℕ → ℕ} {kept : ℕ → ℕ → ℤ} {den prices : ℕ → ℤ} {prices_den : ℤ}
    (h : IsKept links demands bound basis place role kept den prices prices_den) where
  -- row i of the block, as a row of the inverse
  pub kept_row : (i : ℕ) → i < links → IsRow (links + demands) (λ j. (basis j).entry) (unit_vector (place i)) (full_kept links demands basis place (kept i) (den i)) (den i)
  kept_row i l = inverse_full links demands basis place role h.roles h.keys i (kept i) (den i) l (λ j lj. h.rows i j l lj)

  pub prices_row : IsRow (links + demands) (λ j. (basis j).entry) (λ j. (basis j).gain) (full_prices links demands basis place prices prices_den) prices_den
  prices_row = prices_full links demands basis place role h.roles h.keys prices prices_den h.objective

  pub row_product : (i : ℕ) (a : ℕ → ℤ) → dot (links + demands) (full_kept links demands basis place (kept i) (den i)) a ≡ dot links (kept i) (left_column links demands basis place a)
  row_product i = kept_product links demands basis place role h.roles h.keys (kept i) (den i)

  pub cost_product : (c : ColumnOf N) → dot (links + demands) (full_prices links demands basis place prices prices_den) c.entry -ℤ (prices_den *ℤ c.gain) ≡ cost links demands basis place prices prices_den c
  cost_product = price_product links demands basis place role h.roles h.keys prices prices_den

  module _ (weight : ℕ → ℤ) (all : ℤ) (d : ℕ) (l : d < demands) where
    -- the row of demand d's key over all
    pub key_row : HaveWeights links demands basis place den weight d all
        → IsRow (links + demands) (λ j. (basis j).entry) (unit_vector (place (links + d))) (full_key links demands basis place d (key_nums links demands basis place kept weight d) all) all
    key_row weights = key_full links demands basis place role h.roles h.keys kept den weight all (λ i li j lj. h.rows i j li lj) d l weights

    pub key_row_product : (a : ℕ → ℤ) → dot (links + demands) (full_key links demands basis place d (key_nums links demands basis place kept weight d) all) a ≡ key_dot links demands basis place kept weight all d a
    key_row_product a = key_product links demands basis place role h.roles h.keys kept den weight all (λ i li j lj. h.rows i j li lj) d a l
