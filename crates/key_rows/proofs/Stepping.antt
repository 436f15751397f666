-- the product of a key's row in lowest terms
use Rattle.std.proofs.Common.{◌≡◌, ℕ, ℤ, Bool, true, false, List, pos, length, subst, inr, refl, ◌<ℤ◌}
use Rattle.checked_fraction.{specs.Terms.num, specs.declared.row.Row.Row}
use Rattle.net_core.{specs.declared.columns.RouteColumn.RouteColumn, specs.declared.ids.LinkId.LinkId}
use Rattle.key_law.specs.Terms.{IsTieFirst}
use Rattle.key_rows.{specs.KeyTests.{HaveColumnProducts, IsKeyRow}, specs.Names.{left_uses, own_entry}, specs.inner.Candidates.{IsKeyCandidate, IsLowered, DecidesTie, lowered_step}, specs.declared.keyed.Keyed.Keyed, specs.declared.order.Candidate.Candidate, proofs.Products.{key_scaled, key_positive}, proofs.Weighted.left_positive}

module _ (b : Keyed) (name : RouteColumn) (key : List LinkId) (d : ℕ) (x : Candidate) (row : Row) (p : ℤ)
    (have : HaveColumnProducts b name key) (candidate : IsKeyCandidate b d (own_entry name d) x) (is_row : IsKeyRow b d row) (step : p ≡ lowered_step b name key d row) where
  -- it is positive where that of a candidate is
  pub step_positive : pos 0 <ℤ p
  step_positive = key_positive is_row.all row.den p _ is_row.are.positive row.positive
      (key_scaled b.rows b.owners is_row.weights b.products d (length b.rows) (left_uses name key) (num row.nums) is_row.all row.den (own_entry name d) p is_row.reduced have step)
      (left_positive b.rows b.owners candidate.weights is_row.weights d candidate.all is_row.all candidate.are is_row.are (own_entry name d) (num b.products)
      (subst (λ z. pos 0 <ℤ z) candidate.product candidate.positive))

  pub step_lowered : IsLowered b name key x row.nums p
  step_lowered = inr (record { demand = d; role = candidate.role; row = row; is_row = is_row; nums_are = refl; product_is = step })

-- what is decided of two rows in lowest terms
pub decided : (b : Keyed) (name : RouteColumn) (key : List LinkId) (x y : Candidate) (xs ys : List ℤ) (p q : ℤ) (n : ℕ) → n ≡ length b.rows
    → IsLowered b name key x xs p → IsLowered b name key y ys q → (result : Bool)
    → (result ≡ true → IsTieFirst n (num xs) p (num ys) q x.role y.role) → (result ≡ false → IsTieFirst n (num ys) q (num xs) p y.role x.role) → DecidesTie b name key x y result
decided b name key x y xs ys p q n is first second true h k = record {
  nums = xs;
  product = p;
  others = ys;
  other = q;
  first = first;
  second = second;
  tie = subst (λ m. IsTieFirst m (num xs) p (num ys) q x.role y.role) is (h refl);
}
decided b name key x y xs ys p q n is first second false h k = record {
  nums = ys;
  product = q;
  others = xs;
  other = p;
  first = second;
  second = first;
  tie = subst (λ m. IsTieFirst m (num ys) q (num xs) p y.role x.role) is (k refl);
}
