-- turns keep what is kept
use Rattle.std.proofs.Common.{◌≡◌, ◌≢◌, ℕ, ◌<◌, ◌+◌, ◌-◌, refl, sym, ap, ◌∙◌, arith, cond, ⊎_elim, subst, lt-ltb, eq-eqb, ne_eqb, ℤ, pos, ◌-ℤ◌, ◌*ℤ◌, ◌<ℤ◌}
use Rattle.net_core.proofs.Library.{cases_eq, zero-*ℤ}
use Rattle.checked_fraction.{specs.Terms.{IsInLowestTerms, combined}, proofs.Products.positive_product}
use Rattle.simplex_law.{specs.Terms.{int_sum, dot, unit_vector, put, ColumnOf, IsRow, IsTableau, HasTableau, IsPick}, proofs.Lemmas.{sum-same, dot-same, multiple, reduced_row, first_row, other_row, objective_row, turned_raw}}
use Rattle.key_law.{specs.Keys.{left_target, AreKeys, IsBlockRow, key, key_part, left_column, block}, specs.KeyRows.{full_kept, full_prices, full_key, cost, role_nums, AreKeyRows}, specs.Kept.IsKept, specs.Turns.{IsBlockTurned, IsLoneKey}, proofs.Spread.is_spread, proofs.Blocks.block_of, proofs.Kept.{inverse_block, row_product, cost_product}, proofs.Roles.{role_tableau, role_den}}

-- a row is a row of the basis where its numbers agree with one below m
row_same : (m : ℕ) (basic : ℕ → ℕ → ℤ) (target u v : ℕ → ℤ) (d : ℤ) → ((k : ℕ) → k < m → u k ≡ v k) → IsRow m basic target u d → IsRow m basic target v d
row_same m basic target u v d e row j l = dot-same m v u (basic j) (basic j) (λ k h. sym (e k h)) (λ k h. refl) ∙ row j l

mixed_same : {a a' b b' p p' q q' : ℤ} → a ≡ a' → b ≡ b' → p ≡ p' → q ≡ q' → (a *ℤ q) -ℤ (p *ℤ b) ≡ (a' *ℤ q') -ℤ (p' *ℤ b')
mixed_same {a} {a'} {b} {b'} {p} {p'} {q} {q'} ea eb ep eq = ap (λ s. (s *ℤ q) -ℤ (p *ℤ b)) ea ∙ (ap (λ s. (a' *ℤ q) -ℤ (p *ℤ s)) eb ∙ (ap (λ s. (a' *ℤ q) -ℤ (s *ℤ b')) ep ∙ ap (λ s. (a' *ℤ s) -ℤ (p' *ℤ b')) eq))

module _ {N : Type 0} {links demands : ℕ} {bound : ℕ → ℤ} {basis : ℕ → ColumnOf N} {place role : ℕ → ℕ} {kept : ℕ → ℕ → ℤ} {den prices : ℕ → ℤ} {prices_den : ℤ}
    {of_keys : ℕ → ℕ → ℤ} {of_den : ℕ → ℤ} (h : IsKept links demands bound basis place role kept den prices prices_den) (k : AreKeyRows links demands basis place of_keys of_den)
    (c : ColumnOf N) (r : ℕ) (inside : r < links + demands)
    (pick : IsPick (links + demands) bound (λ j. role_nums links demands basis place kept den of_keys of_den (role j)) (full_prices links demands basis place prices prices_den) prices_den c (place r)) where
  abbrev m : ℕ
  m = links + demands

  abbrev nums_at : ℕ → ℕ → ℤ
  nums_at j = role_nums links demands basis place kept den of_keys of_den (role j)

  abbrev dens_at : ℕ → ℤ
  dens_at j = role_den links den of_den (role j)

  abbrev full : ℕ → ℤ
  full = full_prices links demands basis place prices prices_den

  abbrev after : ℕ → ColumnOf N
  after = put basis (place r) c

  abbrev left : ℕ → ℤ
  left = left_column links demands basis place c.entry

  now : IsTableau m bound basis nums_at dens_at full prices_den
  now = role_tableau h k

  -- the next basis has a tableau
  pub next_tableau : HasTableau m bound after
  next_tableau = record { nums = _; den = _; duals = _; duals_den = _; tableau = turned_raw m bound basis nums_at dens_at full prices_den c (place r) now pick }

  -- a column enters at the place of role r, and no other place changes
  here : after (place r) ≡ c
  here = ap (λ t. cond t c (basis (place r))) (eq-eqb (place r) (place r) refl)

  places_apart : (s : ℕ) → s < m → s ≢ r → place s ≢ place r
  places_apart s l ne e = ne (sym (h.roles.there s l) ∙ (ap role e ∙ h.roles.there r inside))

  elsewhere : (s : ℕ) → s < m → s ≢ r → after (place s) ≡ basis (place s)
  elsewhere s l ne = ap (λ t. cond t c (basis (place s))) (ne_eqb (place r) (place s) (λ e. places_apart s l ne (sym e)))

  -- the rows of the block among all rows
  row_at : (i : ℕ) → i < links → nums_at (place i) ≡ full_kept links demands basis place (kept i) (den i)
  row_at i l = ap (λ x. role_nums links demands basis place kept den of_keys of_den x) (h.roles.there i (omega (arith, l)))
      ∙ ap (λ t. cond t (full_kept links demands basis place (kept i) (den i)) (full_key links demands basis place (i - links) (of_keys (i - links)) (of_den (i - links)))) (lt-ltb i links l)

  den_at : (i : ℕ) → i < links → dens_at (place i) ≡ den i
  den_at i l = ap (λ x. role_den links den of_den x) (h.roles.there i (omega (arith, l))) ∙ ap (λ t. cond t (den i) (of_den (i - links))) (lt-ltb i links l)

  number_at : (i x : ℕ) → i < links → x < links → nums_at (place i) x ≡ kept i x
  number_at i x l lx = ap (λ u. u x) (row_at i l) ∙ (is_spread links demands (key_part links demands basis place) (λ d. pos 0) (kept i) (den i)).link x lx

  product_at : (i : ℕ) → i < links → dot m (nums_at (place i)) c.entry ≡ dot links (kept i) left
  product_at i l = ap (λ u. dot m u c.entry) (row_at i l) ∙ row_product h i c.entry

  module _ (rl : r < links) where
    abbrev q : ℤ
    q = dot links (kept r) left

    pub some_pivot : pos 0 <ℤ q
    some_pivot = subst (λ x. pos 0 <ℤ x) (product_at r rl) pick.positive

    pub next_keys : AreKeys links demands after place
    next_keys d e ld le = ap (λ x. x.entry (links + e)) (elsewhere (links + d) (omega (arith, ld)) (λ f. omega (arith, f, rl))) ∙ h.keys d e ld le

    -- each row of the block combined with that of the leaving column is a row of the next block
    pub next_other : (i : ℕ) → i < links → i ≢ r → IsRow links (block links demands after place) (unit_vector i) (combined (kept i) (dot links (kept i) left) (kept r) q) (den i *ℤ q)
    next_other i l ne =
        let raw = inverse_block links demands after place role h.roles next_keys i _ _ l
        (other_row m bound basis nums_at dens_at full prices_den c (place r) (place i) now pick (h.roles.place_in i (omega (arith, l))) (places_apart i (omega (arith, l)) ne)) in
        row_same links (block links demands after place) (unit_vector i) _ _ _
        (λ x lx. mixed_same (number_at i x l lx) (number_at r x rl lx) (product_at i l) (product_at r rl))
        (subst (λ d. IsRow links (block links demands after place) (unit_vector i) (combined (nums_at (place i)) (dot m (nums_at (place i)) c.entry) (nums_at (place r)) (dot m (nums_at (place r)) c.entry)) d)
        (two (den_at i l) (product_at r rl)) raw)
      where
        two : {a a' b b' : ℤ} → a ≡ a' → b ≡ b' → a *ℤ b ≡ a' *ℤ b'
        two {a} {a'} {b} {b'} ea eb = ap (λ s. s *ℤ b) ea ∙ ap (λ s. a' *ℤ s) eb

    -- the row of the leaving column, over its pivot, is a row of the next block
    pub next_first : IsRow links (block links demands after place) (unit_vector r) (kept r) q
    next_first =
        let raw = inverse_block links demands after place role h.roles next_keys r _ _ rl (first_row m bound basis nums_at dens_at full prices_den c (place r) now pick) in
        row_same links (block links demands after place) (unit_vector r) _ _ _ (λ x lx. number_at r x rl lx)
        (subst (λ d. IsRow links (block links demands after place) (unit_vector r) (nums_at (place r)) d) (product_at r rl) raw)

    -- and the prices combined with it are those of the next block
    pub next_prices : IsBlockRow links demands after place (λ j. (after j).gain) (combined prices (cost links demands basis place prices prices_den c) (kept r) q) (prices_den *ℤ q)
    next_prices =
        let raw = block_of links demands after place role (λ j. (after j).gain) _ _ h.roles next_keys (objective_row m bound basis nums_at dens_at full prices_den c (place r) now pick) in
        row_same links (block links demands after place) gains _ _ _
        (λ x lx. mixed_same ((is_spread links demands (key_part links demands basis place) (λ d. (key links demands basis place d).gain) prices prices_den).link x lx) (number_at r x rl lx)
        (cost_product h c) (product_at r rl))
        (subst (λ d. IsRow links (block links demands after place) gains (combined full (dot m full c.entry -ℤ (prices_den *ℤ c.gain)) (nums_at (place r)) (dot m (nums_at (place r)) c.entry)) d)
        (ap (λ s. prices_den *ℤ s) (product_at r rl)) raw)
      where
        gains : ℕ → ℤ
        gains j = left_target links demands (λ d. (after (place (links + d))).gain) ((after (place j)).entry) ((after (place j)).gain)

    module _ {next : ℕ → ℕ → ℤ} {next_den later : ℕ → ℤ} {later_den : ℤ}
        (t : IsBlockTurned links demands basis place c r kept next den next_den prices later prices_den later_den) where
      next_row : (i : ℕ) → i < links → IsRow links (block links demands after place) (unit_vector i) (next i) (next_den i) × (pos 0 <ℤ next_den i) × IsInLowestTerms links (next i) (next_den i)
      next_row i l = ⊎_elim
          (λ e. subst (λ x. IsRow links (block links demands after place) (unit_vector x) (next x) (next_den x) × (pos 0 <ℤ next_den x) × IsInLowestTerms links (next x) (next_den x)) e
          (let f = multiple links (kept r) q (next r) (next_den r) some_pivot t.pivot in
          (reduced_row links (block links demands after place) (unit_vector r) (kept r) (next r) q (next_den r) f.0 f.1 next_first, t.pivot.positive, t.pivot.lowest)))
          (λ ne. let own = t.others i l (λ e. ne (sym e)) in
          let f = multiple links _ _ (next i) (next_den i) (positive_product (den i) q (h.over i l) some_pivot) own in
          (reduced_row links (block links demands after place) (unit_vector i) _ (next i) _ (next_den i) f.0 f.1 (next_other i l (λ e. ne (sym e))), own.positive, own.lowest))
          (cases_eq r i)

      -- a column of the block leaves
      pub block_turned : IsKept links demands bound after place role next next_den later later_den
      block_turned = record {
        whole = next_tableau;
        roles = h.roles;
        keys = next_keys;
        rows = λ i j li lj. (next_row i li).0 j lj;
        over = λ i li. (next_row i li).1;
        lowest = λ i li. (next_row i li).2;
        objective =
            let f = multiple links _ _ later later_den (positive_product prices_den q h.above some_pivot) t.prices_are in
            reduced_row links (block links demands after place) (λ j. left_target links demands (λ d. (after (place (links + d))).gain) ((after (place j)).entry) ((after (place j)).gain)) _ later _ later_den f.0 f.1 next_prices;
        above = t.prices_are.positive;
        prices_lowest = t.prices_are.lowest;
      }

  module _ (at : ℕ) (is : r ≡ links + at) (lone : IsLoneKey links demands basis place c at) where
    same_column : (j : ℕ) → j < links → after (place j) ≡ basis (place j)
    same_column j l = elsewhere j (omega (arith, l)) (λ e. omega (arith, e, is, l))

    pub new_key : after (place (links + at)) ≡ c
    new_key = subst (λ x. after (place x) ≡ c) is here

    pub old_key : (e : ℕ) → e < demands → e ≢ at → after (place (links + e)) ≡ basis (place (links + e))
    old_key e l ne = elsewhere (links + e) (omega (arith, l)) (λ f. ne (omega (arith, f, is)))

    -- no column of the block has an entry in the row of the demand whose key leaves
    same_sum : (j : ℕ) (f : ColumnOf N → ℤ) → j < links
        → int_sum demands (λ e. (after (place j)).entry (links + e) *ℤ f (after (place (links + e)))) ≡ int_sum demands (λ e. (basis (place j)).entry (links + e) *ℤ f (basis (place (links + e))))
    same_sum j f l = sum-same demands _ _ (λ e le. ap (λ x. x.entry (links + e) *ℤ f (after (place (links + e)))) (same_column j l) ∙ ⊎_elim
        (λ same. let zero : (basis (place j)).entry (links + e) ≡ pos 0 = subst (λ x. (basis (place j)).entry (links + x) ≡ pos 0) (sym same) (lone.alone j l) in
        ap (λ x. x *ℤ f (after (place (links + e)))) zero ∙ (zero-*ℤ (f (after (place (links + e)))) ∙ sym (ap (λ x. x *ℤ f (basis (place (links + e)))) zero ∙ zero-*ℤ (f (basis (place (links + e)))))))
        (λ ne. ap (λ x. (basis (place j)).entry (links + e) *ℤ f x) (old_key e le ne))
        (cases_eq e at))

    same_block : (j x : ℕ) → j < links → block links demands after place j x ≡ block links demands basis place j x
    same_block j x l = ap (λ y. y.entry x -ℤ int_sum demands (λ e. (after (place j)).entry (links + e) *ℤ (after (place (links + e))).entry x)) (same_column j l)
        ∙ ap (λ s. (basis (place j)).entry x -ℤ s) (same_sum j (λ y. y.entry x) l)

    -- a key leaves that has no other basic column of its demand: all that is kept stays
    pub key_turned : IsKept links demands bound after place role kept den prices prices_den
    key_turned = record {
      whole = next_tableau;
      roles = h.roles;
      keys = λ d e ld le. ⊎_elim
          (λ same. subst (λ x. (after (place (links + x))).entry (links + e) ≡ unit_vector x e) (sym same) (ap (λ y. y.entry (links + e)) new_key ∙ lone.owned e le))
          (λ ne. ap (λ y. y.entry (links + e)) (old_key d ld ne) ∙ h.keys d e ld le)
          (cases_eq d at);
      rows = λ i j li lj. dot-same links (kept i) (kept i) _ _ (λ x lx. refl) (λ x lx. same_block j x lj) ∙ h.rows i j li lj;
      over = h.over;
      lowest = h.lowest;
      objective = λ j lj. dot-same links prices prices _ _ (λ x lx. refl) (λ x lx. same_block j x lj) ∙ (h.objective j lj
          ∙ sym (ap (λ y. prices_den *ℤ (y.gain -ℤ int_sum demands (λ e. (after (place j)).entry (links + e) *ℤ (after (place (links + e))).gain))) (same_column j lj)
          ∙ ap (λ s. prices_den *ℤ ((basis (place j)).gain -ℤ s)) (same_sum j (λ y. y.gain) lj)));
      above = h.above;
      prices_lowest = h.prices_lowest;
    }
