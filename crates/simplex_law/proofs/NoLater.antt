-- the order of the ratio test, and picks, over any rows of a basis
use Rattle.std.proofs.Common.{◌≡◌, ℕ, suc, ◌<◌, sym, ap, ◌∙◌, arith, subst, ℤ, pos, ◌-ℤ◌, ◌*ℤ◌, ◌<ℤ◌}
use Rattle.net_core.proofs.Library.{*ℤ_comm, ints}
use Rattle.checked_fraction.{specs.Terms.combined, proofs.Products.{regroup, positive_product}}
use Rattle.simplex_law.{specs.Sums.dot, specs.Programs.ColumnOf, specs.inner.Lexicographic.valued, specs.inner.Pivots.{IsNoLater, IsPick}, specs.inner.Tableaux.IsTableau, proofs.Arithmetic.{minus_left, moved_out, positive_cancel}, proofs.Order.lex_scaled, proofs.Unique.{dot_scaled, row_unique, inverse_unique, value_unique}}

-- at one place of two rows
pub gone : (u v p q : ℤ) → u *ℤ q ≡ v *ℤ p → (v *ℤ p) -ℤ (q *ℤ u) ≡ pos 0
gone u v p q e = omega (arith, ints, e, *ℤ_comm u q)

pub over : (u v p q : ℤ) → (u *ℤ q) <ℤ (v *ℤ p) → pos 0 <ℤ ((v *ℤ p) -ℤ (q *ℤ u))
over u v p q e = omega (arith, ints, e, *ℤ_comm u q)

-- a row that comes no later than a second still does where the row and its product are multiplied by a positive factor; and so for the second
pub first_scaled : (m : ℕ) (bound u w : ℕ → ℤ) (p r : ℤ) (v : ℕ → ℤ) (q d e : ℤ) → pos 0 <ℤ d → pos 0 <ℤ e
    → ((k : ℕ) → k < suc m → e *ℤ valued m bound u k ≡ d *ℤ valued m bound w k) → e *ℤ p ≡ d *ℤ r → IsNoLater m bound u p v q → IsNoLater m bound w r v q
first_scaled m bound u w p r v q d e pd pe same product h =
    lex_scaled (suc m) (combined (valued m bound v) q (valued m bound u) p) (combined (valued m bound v) q (valued m bound w) r) e d pe pd
    (λ k l. each (valued m bound u k) (valued m bound w k) (valued m bound v k) (same k l)) h
  where
    each : (x y z : ℤ) → e *ℤ x ≡ d *ℤ y → e *ℤ ((z *ℤ p) -ℤ (q *ℤ x)) ≡ d *ℤ ((z *ℤ r) -ℤ (q *ℤ y))
    each x y z s =
        let one = minus_left (z *ℤ p) (q *ℤ x) e in let two = minus_left (z *ℤ r) (q *ℤ y) d in
        let a : e *ℤ (z *ℤ p) ≡ d *ℤ (z *ℤ r) = moved_out e z p ∙ (ap (λ t. z *ℤ t) product ∙ moved_out z d r) in
        let b : e *ℤ (q *ℤ x) ≡ d *ℤ (q *ℤ y) = moved_out e q x ∙ (ap (λ t. q *ℤ t) s ∙ moved_out q d y) in
        omega (arith, ints, one, two, a, b)

pub second_scaled : (m : ℕ) (bound u : ℕ → ℤ) (p : ℤ) (v w : ℕ → ℤ) (q r d e : ℤ) → pos 0 <ℤ d → pos 0 <ℤ e
    → ((k : ℕ) → k < suc m → e *ℤ valued m bound v k ≡ d *ℤ valued m bound w k) → e *ℤ q ≡ d *ℤ r → IsNoLater m bound u p v q → IsNoLater m bound u p w r
second_scaled m bound u p v w q r d e pd pe same product h =
    lex_scaled (suc m) (combined (valued m bound v) q (valued m bound u) p) (combined (valued m bound w) r (valued m bound u) p) e d pe pd
    (λ k l. each (valued m bound u k) (valued m bound v k) (valued m bound w k) (same k l)) h
  where
    each : (x y z : ℤ) → e *ℤ y ≡ d *ℤ z → e *ℤ ((y *ℤ p) -ℤ (q *ℤ x)) ≡ d *ℤ ((z *ℤ p) -ℤ (r *ℤ x))
    each x y z s =
        let one = minus_left (y *ℤ p) (q *ℤ x) e in let two = minus_left (z *ℤ p) (r *ℤ x) d in
        let a : e *ℤ (y *ℤ p) ≡ d *ℤ (z *ℤ p) = sym (regroup e y p) ∙ (ap (λ t. t *ℤ p) s ∙ regroup d z p) in
        let b : e *ℤ (q *ℤ x) ≡ d *ℤ (r *ℤ x) = sym (regroup e q x) ∙ (ap (λ t. t *ℤ x) product ∙ regroup d r x) in
        omega (arith, ints, one, two, a, b)

-- a pick by one tableau of a basis is a pick by any tableau of it
pub pick_again : {N : Type 0} (m : ℕ) (bound : ℕ → ℤ) (basis : ℕ → ColumnOf N) (nums others : ℕ → ℕ → ℤ) (den dens duals prices : ℕ → ℤ) (duals_den prices_den : ℤ) (c : ColumnOf N) (r : ℕ)
    → IsTableau m bound basis nums den duals duals_den → IsTableau m bound basis others dens prices prices_den
    → IsPick m bound nums duals duals_den c r → IsPick m bound others prices prices_den c r
pick_again m bound basis nums others den dens duals prices duals_den prices_den c r s o p = record {
  inside = p.inside;
  positive = positive_of r p.inside p.positive;
  gains =
      let same = dot_scaled m duals prices c.entry duals_den prices_den (λ l ll. row_unique m (λ j. (basis j).entry) nums den s.filling.0 s.filling.1 (λ j. (basis j).gain) duals prices duals_den prices_den l s.filling.2 s.objective o.objective ll) in
      less (dot m duals c.entry) (dot m prices c.entry) c.gain same p.gains;
  ratio = λ i l ne more.
      second_scaled m bound (others r) (dot m (others r) c.entry) (nums i) (others i) (dot m (nums i) c.entry) (dot m (others i) c.entry) (den i) (dens i) (s.over i l) (o.over i l)
      (λ k lk. value_unique m bound basis nums den duals duals_den s i (others i) (dens i) k l (o.rows i l) lk) (products i l)
      (first_scaled m bound (nums r) (others r) (dot m (nums r) c.entry) (dot m (others r) c.entry) (nums i) (dot m (nums i) c.entry) (den r) (dens r) (s.over r p.inside) (o.over r p.inside)
      (λ k lk. value_unique m bound basis nums den duals duals_den s r (others r) (dens r) k p.inside (o.rows r p.inside) lk) (products r p.inside)
      (p.ratio i l ne (back i l more)));
}
  where
    products : (i : ℕ) → i < m → dens i *ℤ dot m (nums i) c.entry ≡ den i *ℤ dot m (others i) c.entry
    products i l = dot_scaled m (nums i) (others i) c.entry (den i) (dens i) (λ k lk. inverse_unique m bound basis nums den duals duals_den s i (others i) (dens i) k l (o.rows i l) lk)

    positive_of : (i : ℕ) → i < m → pos 0 <ℤ dot m (nums i) c.entry → pos 0 <ℤ dot m (others i) c.entry
    positive_of i l h = positive_cancel (den i) (dot m (others i) c.entry) (s.over i l) (subst (λ x. pos 0 <ℤ x) (products i l) (positive_product (dens i) (dot m (nums i) c.entry) (o.over i l) h))

    back : (i : ℕ) → i < m → pos 0 <ℤ dot m (others i) c.entry → pos 0 <ℤ dot m (nums i) c.entry
    back i l h = positive_cancel (dens i) (dot m (nums i) c.entry) (o.over i l) (subst (λ x. pos 0 <ℤ x) (sym (products i l)) (positive_product (den i) (dot m (others i) c.entry) (s.over i l) h))

    less : (x y g : ℤ) → prices_den *ℤ x ≡ duals_den *ℤ y → (x -ℤ (duals_den *ℤ g)) <ℤ pos 0 → (y -ℤ (prices_den *ℤ g)) <ℤ pos 0
    less x y g e h =
        let t = positive_product prices_den ((duals_den *ℤ g) -ℤ x) o.above (omega (arith, ints, h)) in
        let one = minus_left (duals_den *ℤ g) x prices_den in
        let two = minus_left (prices_den *ℤ g) y duals_den in
        let three = moved_out prices_den duals_den g in
        let u : pos 0 <ℤ (duals_den *ℤ ((prices_den *ℤ g) -ℤ y)) = omega (arith, ints, t, one, two, three, e) in
        let v = positive_cancel duals_den ((prices_den *ℤ g) -ℤ y) s.above u in
        omega (arith, ints, v)
