-- a key and a column of its demand change roles: the basis stays
use Rattle.std.proofs.Common.{◌≡◌, ◌≢◌, ℕ, ◌<◌, ◌+◌, refl, sym, ap, ◌∙◌, arith, cond, eqb, ⊎_elim, subst, unsigned_abs, eq-eqb, ne_eqb, ℤ, pos, ◌<ℤ◌}
use Rattle.net_core.proofs.Library.{cases_eq, ◌∣◌}
use Rattle.checked_fraction.specs.Terms.{IsInLowestTerms}
use Rattle.simplex_law.{specs.Terms.{unit_vector, ColumnOf, IsRow}, proofs.Lemmas.{dot-same, multiple, reduced_row}}
use Rattle.key_law.{specs.Keys.{left_target, AreRoles, swap, AreKeys, key, key_part, block}, specs.KeyRows.{full_kept, full_key, key_nums}, specs.Kept.IsKept, specs.Turns.IsExchanged, proofs.Spread.is_spread, proofs.Blocks.block_of, proofs.Kept.{inverse_block, kept_row, prices_row, key_row}}

pub swap_first : (a b : ℕ) → swap a b a ≡ b
swap_first a b = ap (λ t. cond t b (cond (eqb b a) a a)) (eq-eqb a a refl)

pub swap_second : (a b : ℕ) → a ≢ b → swap a b b ≡ a
swap_second a b ne = ap (λ t. cond t b (cond (eqb b b) a b)) (ne_eqb a b ne) ∙ ap (λ t. cond t a b) (eq-eqb b b refl)

pub swap_other : (a b r : ℕ) → a ≢ r → b ≢ r → swap a b r ≡ r
swap_other a b r na nb = ap (λ t. cond t b (cond (eqb b r) a r)) (ne_eqb a r na) ∙ ap (λ t. cond t a r) (ne_eqb b r nb)

-- a role is the one, or the other, or neither
swap_cases : (P : ℕ → ℕ → Type 0) (a b r : ℕ) → a ≢ b → P a b → P b a → (a ≢ r → b ≢ r → P r r) → P r (swap a b r)
swap_cases P a b r ne first second other = ⊎_elim
    (λ e. subst (λ x. P x (swap a b x)) e (subst (λ y. P a y) (sym (swap_first a b)) first))
    (λ na. ⊎_elim
    (λ e. subst (λ x. P x (swap a b x)) e (subst (λ y. P b y) (sym (swap_second a b ne)) second))
    (λ nb. subst (λ y. P r y) (sym (swap_other a b r na nb)) (other na nb))
    (cases_eq b r))
    (cases_eq a r)

swap_swap : (a b r : ℕ) → a ≢ b → swap a b (swap a b r) ≡ r
swap_swap a b r ne = swap_cases (λ x y. swap a b y ≡ x) a b r ne (swap_second a b ne) (swap_first a b) (λ na nb. swap_other a b r na nb)

-- roles that are changed are roles
pub swapped : (m a b : ℕ) (place role : ℕ → ℕ) → a < m → b < m → a ≢ b → AreRoles m place role → AreRoles m (λ r. place (swap a b r)) (λ j. swap a b (role j))
swapped m a b place role la lb ne h = record {
  place_in = λ r l. h.place_in (swap a b r) (low r l);
  role_in = λ j l. low (role j) (h.role_in j l);
  there = λ r l. ap (λ x. swap a b x) (h.there (swap a b r) (low r l)) ∙ swap_swap a b r ne;
  back = λ j l. ap place (swap_swap a b (role j) ne) ∙ h.back j l;
}
  where
    low : (r : ℕ) → r < m → swap a b r < m
    low r l = swap_cases (λ x y. x < m → y < m) a b r ne (λ x. lb) (λ x. la) (λ na nb x. x) l

module _ {N : Type 0} {links demands : ℕ} {bound : ℕ → ℤ} {basis : ℕ → ColumnOf N} {place role : ℕ → ℕ} {kept next : ℕ → ℕ → ℤ} {den next_den prices weight : ℕ → ℤ} {prices_den all : ℤ}
    {i d : ℕ} (h : IsKept links demands bound basis place role kept den prices prices_den) (x : IsExchanged links demands basis place i d kept next den next_den weight all) where
  abbrev other_place : ℕ → ℕ
  other_place r = place (swap i (links + d) r)

  abbrev other_role : ℕ → ℕ
  other_role j = swap i (links + d) (role j)

  pub different : i ≢ links + d
  different e = omega (arith, e, x.row_in)

  other_roles : AreRoles (links + demands) other_place other_role
  other_roles = swapped (links + demands) i (links + d) place role (omega (arith, x.row_in)) (omega (arith, x.demand_in)) different h.roles

  pub key_at : (e : ℕ) → e < demands → e ≢ d → other_place (links + e) ≡ place (links + e)
  key_at e le ne = ap place (swap_other i (links + d) (links + e) (λ f. omega (arith, f, x.row_in)) (λ f. ne (omega (arith, f))))

  row_at : (j : ℕ) → j < links → j ≢ i → other_place j ≡ place j
  row_at j lj ne = ap place (swap_other i (links + d) j (λ f. ne (sym f)) (λ f. omega (arith, f, lj)))

  other_keys : AreKeys links demands basis other_place
  other_keys e f le lf = ⊎_elim
      (λ same. subst (λ y. (basis (other_place (links + y))).entry (links + f) ≡ unit_vector y f) (sym same)
      (ap (λ y. (basis (place y)).entry (links + f)) (swap_second i (links + d) different) ∙ x.owned f lf))
      (λ ne. ap (λ y. (basis y).entry (links + f)) (key_at e le ne) ∙ h.keys e f le lf)
      (cases_eq e d)

  row_same : (target u v : ℕ → ℤ) (e : ℤ) → ((k : ℕ) → k < links → v k ≡ u k) → IsRow links (block links demands basis other_place) target u e → IsRow links (block links demands basis other_place) target v e
  row_same target u v e same is j l = dot-same links v u _ _ same (λ k lk. refl) ∙ is j l

  -- a row of the whole inverse, by its place, as a row of the other block
  to_block : (j p : ℕ) (nums full : ℕ → ℤ) (e : ℤ) → j < links → other_place j ≡ p → ((k : ℕ) → k < links → nums k ≡ full k) → IsRow (links + demands) (λ y. (basis y).entry) (unit_vector p) full e
      → IsRow links (block links demands basis other_place) (unit_vector j) nums e
  to_block j p nums full e lj at same row = row_same (unit_vector j) full nums e same
      (inverse_block links demands basis other_place other_role other_roles other_keys j full e lj (subst (λ y. IsRow (links + demands) (λ y. (basis y).entry) (unit_vector y) full e) (sym at) row))

  -- row i becomes that of the old key, and the others stay
  old_key_row : IsRow links (block links demands basis other_place) (unit_vector i) (next i) (next_den i)
  old_key_row =
      let f = multiple links _ all (next i) (next_den i) x.positive x.row in
      reduced_row links (block links demands basis other_place) (unit_vector i) (key_nums links demands basis place kept weight d) (next i) all (next_den i) f.0 f.1
      (to_block i (place (links + d)) _ (full_key links demands basis place d (key_nums links demands basis place kept weight d) all) all x.row_in (ap place (swap_first i (links + d)))
      (λ k lk. sym ((is_spread links demands (key_part links demands basis place) (unit_vector d) (key_nums links demands basis place kept weight d) all).link k lk))
      (key_row h weight all d x.demand_in x.weights))

  rest_row : (j : ℕ) → j < links → j ≢ i → IsRow links (block links demands basis other_place) (unit_vector j) (next j) (next_den j)
  rest_row j lj ne = subst (λ e. IsRow links (block links demands basis other_place) (unit_vector j) (next j) e) (sym (x.rest_den j lj ne))
      (to_block j (place j) (next j) (full_kept links demands basis place (kept j) (den j)) (den j) lj (row_at j lj ne)
      (λ k lk. x.rest j k lj ne lk ∙ sym ((is_spread links demands (key_part links demands basis place) (λ e. pos 0) (kept j) (den j)).link k lk)) (kept_row h j lj))

  next_row : (j : ℕ) → j < links → IsRow links (block links demands basis other_place) (unit_vector j) (next j) (next_den j) × (pos 0 <ℤ next_den j) × IsInLowestTerms links (next j) (next_den j)
  next_row j lj = ⊎_elim
      (λ e. subst (λ y. IsRow links (block links demands basis other_place) (unit_vector y) (next y) (next_den y) × (pos 0 <ℤ next_den y) × IsInLowestTerms links (next y) (next_den y)) (sym e)
      (old_key_row, x.row.positive, x.row.lowest))
      (λ ne. (
        rest_row j lj ne,
        subst (λ e. pos 0 <ℤ e) (sym (x.rest_den j lj ne)) (h.over j lj),
        lowest_same (λ k lk. x.rest j k lj ne lk) (x.rest_den j lj ne) (h.lowest j lj),
      ))
      (cases_eq j i)
    where
      lowest_same : {u v : ℕ → ℤ} {e f : ℤ} → ((k : ℕ) → k < links → v k ≡ u k) → f ≡ e → IsInLowestTerms links u e → IsInLowestTerms links v f
      lowest_same {u} {v} {e} {f} same is low g of_den of_nums = low g (subst (λ z. g ∣ unsigned_abs z) is of_den) (λ k lk. subst (λ z. g ∣ unsigned_abs z) (same k lk) (of_nums k lk))

  pub exchanged : IsKept links demands bound basis other_place other_role next next_den prices prices_den
  exchanged = record {
    whole = h.whole;
    roles = other_roles;
    keys = other_keys;
    rows = λ j k lj lk. (next_row j lj).0 k lk;
    over = λ j lj. (next_row j lj).1;
    lowest = λ j lj. (next_row j lj).2;
    objective =
        row_same (λ j. left_target links demands (λ e. (basis (other_place (links + e))).gain) ((basis (other_place j)).entry) ((basis (other_place j)).gain)) _ prices prices_den
        (λ k lk. sym ((is_spread links demands (key_part links demands basis place) (λ e. (key links demands basis place e).gain) prices prices_den).link k lk))
        (block_of links demands basis other_place other_role (λ j. (basis j).gain) _ prices_den other_roles other_keys (prices_row h));
    above = h.above;
    prices_lowest = h.prices_lowest;
  }
