-- rows and keys that may leave, as rows of the whole inverse
use Rattle.std.proofs.Common.{◌≡◌, ℕ, ℤ, List, pos, ◌+◌, ◌<◌, ◌-ℤ◌, ◌*ℤ◌, sym, ap, ◌∙◌, subst, refl, arith}
use Rattle.net_core.{proofs.Library.ints, specs.declared.columns.RouteColumn.RouteColumn}
use Rattle.checked_fraction.specs.Terms.{num}
use Rattle.simplex_law.{specs.Terms.{dot, unit_vector, ColumnOf}, proofs.Lemmas.sum-same}
use Rattle.simplex_core.specs.Terms.{nums_at, den_at}
use Rattle.key_law.{specs.Terms.{key_part, left_column, full_kept, full_key, key_nums, key_dot, IsRoleRow}, proofs.Lemmas.{row_product, key_row_product, is_spread}}
use Rattle.key_rows.{specs.Bases.IsKeyed, specs.KeyRows.{amounts, times_taken, weighted}, specs.inner.Candidates.IsKeyCandidate, specs.inner.Orders.IsRowCandidate, specs.declared.keyed.Keyed.Keyed, specs.declared.order.Candidate.Candidate, proofs.Columns.times_are}

module _ {links demands : ℕ} {bound : ℕ → ℤ} {basis : ℕ → ColumnOf RouteColumn} {place role : ℕ → ℕ} {b : Keyed} (h : IsKeyed links demands bound basis place role b)
    (a : ℕ → ℤ) (have : (i : ℕ) → i < links → num b.products i ≡ dot links (nums_at b.rows i) (left_column links demands basis place a)) where
  -- a row of a link that may leave
  pub row_leaver : (x : Candidate) → IsRowCandidate links b.values b.products x
      → IsRoleRow links demands (key_part links demands basis place) bound a x.role (pos x.value) x.product (nums_at b.rows x.role) x.product (λ d. pos 0) (nums_at b.rows x.role) (den_at b.rows x.role)
      (full_kept links demands basis place (nums_at b.rows x.role) (den_at b.rows x.role))
  row_leaver x c = record {
    inside = omega (arith, c.inside);
    spreads = is_spread links demands (key_part links demands basis place) (λ d. pos 0) (nums_at b.rows x.role) (den_at b.rows x.role);
    of_block = λ l d ld. refl;
    of_key = λ d ld is. absurd (omega (arith, is, c.inside));
    over = h.kept.over x.role c.inside;
    value_is = c.value ∙ (h.values x.role c.inside ∙ sym (row_product h.kept x.role bound));
    product_is = c.product ∙ (have x.role c.inside ∙ sym (row_product h.kept x.role a));
    positive = c.positive;
    factor = pos 1;
    times = pos 1;
    factor_positive = omega (arith, ints);
    times_positive = omega (arith, ints);
    numbers = λ k l. refl;
    pivot = refl;
  }

  -- a key's numbers, over weights of its demand's rows, by what the code holds
  pub key_dot_is : (weights : List ℤ) (all : ℤ) (d : ℕ) (own : ℤ) (f : ℕ → ℤ) (x : ℕ → ℤ) → d < demands → own ≡ x (links + d)
      → ((i : ℕ) → i < links → f i ≡ dot links (nums_at b.rows i) (left_column links demands basis place x))
      → (all *ℤ own) -ℤ weighted b.owners weights d f links ≡ key_dot links demands basis place (nums_at b.rows) (num weights) all d x
  key_dot_is weights all d own f x ld is each =
      ap (λ z. (all *ℤ z) -ℤ weighted b.owners weights d f links) is
      ∙ ap (λ s. (all *ℤ x (links + d)) -ℤ s) (sum-same links _ _ (λ i l. ap (λ z. times_taken b.owners weights d i *ℤ z) (each i l)
      ∙ ap (λ z. z *ℤ dot links (nums_at b.rows i) (left_column links demands basis place x)) (sym (times_are h weights d i ld l))))

  -- the key of a demand that may leave
  pub key_leaver : (x : Candidate) (d : ℕ) (own : ℤ) (ld : d < demands) (is : own ≡ a (links + d)) (c : IsKeyCandidate b d own x)
      → IsRoleRow links demands (key_part links demands basis place) bound a x.role (pos x.value) x.product
      (key_nums links demands basis place (nums_at b.rows) (num c.weights) d) x.product (unit_vector d) (key_nums links demands basis place (nums_at b.rows) (num c.weights) d) c.all
      (full_key links demands basis place d (key_nums links demands basis place (nums_at b.rows) (num c.weights) d) c.all)
  key_leaver x d own ld is c =
      let rows = h.shaped.rows in
      let role_is : x.role ≡ links + d = c.role ∙ ap (λ n. n + d) rows in
      let value = subst (λ n. pos x.value ≡ (c.all *ℤ num b.bounds (n + d)) -ℤ weighted b.owners c.weights d (amounts b.values) n) rows c.value in
      let product = subst (λ n. x.product ≡ (c.all *ℤ own) -ℤ weighted b.owners c.weights d (num b.products) n) rows c.product in
      record {
        inside = omega (arith, role_is, ld);
        spreads = is_spread links demands (key_part links demands basis place) (unit_vector d) (key_nums links demands basis place (nums_at b.rows) (num c.weights) d) c.all;
        of_block = λ l e le. absurd (omega (arith, l, role_is));
        of_key = λ e le f g lg. let same : d ≡ e = omega (arith, role_is, f) in ap (λ y. unit_vector y g) same;
        over = c.are.positive;
        value_is = value ∙ (key_dot_is c.weights c.all d (num b.bounds (links + d)) (amounts b.values) bound ld (h.bounds (links + d) (omega (arith, ld))) h.values
            ∙ sym (key_row_product h.kept (num c.weights) c.all d ld bound));
        product_is = product ∙ (key_dot_is c.weights c.all d own (num b.products) a ld is have ∙ sym (key_row_product h.kept (num c.weights) c.all d ld a));
        positive = c.positive;
        factor = pos 1;
        times = pos 1;
        factor_positive = omega (arith, ints);
        times_positive = omega (arith, ints);
        numbers = λ k l. refl;
        pivot = refl;
      }
