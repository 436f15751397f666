-- the ratio test over roles doesn't ask which rows of the inverse are taken for them
use Rattle.std.proofs.Common.{◌≡◌, ℕ, ℤ, pos, ◌+◌, ◌<◌, ◌*ℤ◌, subst, ◌<ℤ◌}
use Rattle.net_core.specs.declared.columns.RouteColumn.{RouteColumn}
use Rattle.simplex_law.{specs.Terms.{IsInverseRow, ColumnOf, dot, unit_vector, IsRatioLe}, proofs.Lemmas.{positive_cancel, first_scaled, second_scaled, dot_scaled, row_unique, valued_scaled}}
use Rattle.simplex_core.proofs.Ratios.{no_later_trans, no_later_same}
use Rattle.key_law.specs.Terms.{IsKept}
use Rattle.checked_fraction.proofs.Products.{positive_product}
use Rattle.key_rows.specs.FirstRoles.{HasStep, LimitsNothing, IsNoLaterRole}

module _ {links demands : ℕ} {bound : ℕ → ℤ} {basis : ℕ → ColumnOf RouteColumn} {place role : ℕ → ℕ} {kept : ℕ → ℕ → ℤ} {den prices : ℕ → ℤ} {prices_den : ℤ}
    (h : IsKept links demands bound basis place role kept den prices prices_den) (a : ℕ → ℤ) where
  abbrev m : ℕ
  m = links + demands

  -- two rows of one role are equal but for a factor
  same_rows : (r : ℕ) (u v : ℕ → ℤ) (d e : ℤ) → IsInverseRow m basis (place r) u d → IsInverseRow m basis (place r) v e → (k : ℕ) → k < m → e *ℤ u k ≡ d *ℤ v k
  same_rows r u v d e hu hv k l = let t = h.whole.tableau in
      row_unique m (λ j. (basis j).entry) h.whole.nums h.whole.den t.filling.0 t.filling.1 (unit_vector (place r)) u v d e k t.filling.2 hu.1 hv.1 l

  same_products : (r : ℕ) (u v : ℕ → ℤ) (d e : ℤ) → IsInverseRow m basis (place r) u d → IsInverseRow m basis (place r) v e → e *ℤ dot m u a ≡ d *ℤ dot m v a
  same_products r u v d e hu hv = dot_scaled m u v a d e (same_rows r u v d e hu hv)

  pub positive_again : (r : ℕ) (u v : ℕ → ℤ) (d e : ℤ) → IsInverseRow m basis (place r) u d → IsInverseRow m basis (place r) v e → pos 0 <ℤ dot m u a → pos 0 <ℤ dot m v a
  positive_again r u v d e hu hv p = positive_cancel d (dot m v a) hu.0 (subst (λ x. pos 0 <ℤ x) (same_products r u v d e hu hv) (positive_product e (dot m u a) hv.0 p))

  -- one row that doesn't limit the column tells of all
  pub limits_nothing : (r : ℕ) (u : ℕ → ℤ) (d : ℤ) → IsInverseRow m basis (place r) u d → (pos 0 <ℤ dot m u a → ⊥) → LimitsNothing m bound basis place a r
  limits_nothing r u d hu none v e hv p = none (positive_again r v u e d hv hu p)

  -- one pair of rows tells which of two roles is first
  pub no_later_role : (r s : ℕ) (u v : ℕ → ℤ) (d e : ℤ) → IsInverseRow m basis (place r) u d → IsInverseRow m basis (place s) v e → IsRatioLe m bound a u v → IsNoLaterRole m bound basis place a r s
  no_later_role r s u v d e hu hv le x y f g hx hy px py =
      second_scaled m bound x (dot m x a) v y (dot m v a) (dot m y a) e g hv.0 hy.0 (valued_scaled m bound v y e g (same_rows s v y e g hv hy)) (same_products s v y e g hv hy)
      (first_scaled m bound u x (dot m u a) (dot m x a) v (dot m v a) d f hu.0 hx.0 (valued_scaled m bound u x d f (same_rows r u x d f hu hx)) (same_products r u x d f hu hx) le)

  pub no_later_itself : (r : ℕ) → HasStep m bound basis place a r → IsNoLaterRole m bound basis place a r r
  no_later_itself r s = no_later_role r r s.0 s.0 s.1 s.1 s.2 s.2 (no_later_same m bound s.0 (dot m s.0 a))

  -- over a role between
  pub no_later_over : (r s t : ℕ) → HasStep m bound basis place a s → IsNoLaterRole m bound basis place a r s → IsNoLaterRole m bound basis place a s t → IsNoLaterRole m bound basis place a r t
  no_later_over r s t between first second u w d f hu hw pu pw =
      no_later_trans m bound u (dot m u a) between.0 (dot m between.0 a) w (dot m w a) pu between.3 pw
      (first u between.0 d between.1 hu between.2 pu between.3) (second between.0 w between.1 f between.2 hw between.3 pw)
