-- the first row by the ratio test, row by row
use Rattle.std.proofs.Common.{◌≡◌, ℕ, ℤ, List, Option, Some, None, pos, ◌+◌, ◌*ℤ◌, sym, ap, ◌∙◌, subst, arith, ⊎_elim, inl, inr, ◌⊎◌, ◌<ℤ◌}
use Rattle.net_core.proofs.Library.{cases_lt, ints}
use Rattle.checked_fraction.{specs.Terms.{num, combined}, specs.declared.row.Row.Row}
use Rattle.simplex_law.{specs.Terms.{dot, IsNoLater}, proofs.Lemmas.{gone, over, lex_at, lex_none}}
use Rattle.simplex_core.{specs.Terms.nums_at, proofs.Ratios.{no_later_trans, no_later_same}}
use Rattle.key_law.specs.Terms.{ComesFirst}
use Rattle.key_rows.{specs.KeyRows.HaveValues, specs.inner.Orders.{IsRowFirst, IsRowCandidate, IsNoLaterRow, IsBetterRow, IsBestRow}, specs.declared.order.Candidate.Candidate}

-- what comes first comes no later
no_later : (m : ℕ) (rest u : ℕ → ℤ) (p : ℤ) (v : ℕ → ℤ) (q x y : ℤ) (a b : ℕ) → x ≡ dot m u rest → y ≡ dot m v rest → ComesFirst m x p y q u p v q a b → IsNoLater m rest u p v q
no_later m rest u p v q x y a b ex ey first = ⊎_elim
    (λ less. inl (over (dot m u rest) (dot m v rest) p q (subst (λ z. (z *ℤ q) <ℤ (dot m v rest *ℤ p)) ex (subst (λ z. (x *ℤ q) <ℤ (z *ℤ p)) ey less))))
    (λ same.
    let equal = gone (dot m u rest) (dot m v rest) p q (ap (λ z. z *ℤ q) (sym ex) ∙ (same.0 ∙ ap (λ z. z *ℤ p) ey)) in
    ⊎_elim
    (λ found. inr (equal, lex_at m found.0 (combined v q u p) found.1 (λ k l. gone (u k) (v k) p q (found.2 k l)) (over (u found.0) (v found.0) p q found.3)))
    (λ all. inr (equal, lex_none m (combined v q u p) (λ k l. gone (u k) (v k) p q (all.0 k l))))
    same.1)
    first

module _ (links : ℕ) (rows : List Row) (rest : ℕ → ℤ) (values : List ℕ) (products : List ℤ) (have : HaveValues links rows rest values) where
  candidate_no_later : (x y : Candidate) → IsRowCandidate links values products x → IsRowCandidate links values products y → IsRowFirst links rows x y → IsNoLaterRow links rows rest products x.role y.role
  candidate_no_later x y cx cy first =
      subst (λ p. IsNoLater links rest (nums_at rows x.role) p (nums_at rows y.role) (num products y.role)) cx.product
      (subst (λ q. IsNoLater links rest (nums_at rows x.role) x.product (nums_at rows y.role) q) cy.product
      (no_later links rest (nums_at rows x.role) x.product (nums_at rows y.role) y.product (pos x.value) (pos y.value) x.role y.role
      (cx.value ∙ have x.role cx.inside) (cy.value ∙ have y.role cy.inside) first))

  positive_of : (x : Candidate) → IsRowCandidate links values products x → pos 0 <ℤ num products x.role
  positive_of x c = subst (λ z. pos 0 <ℤ z) c.product c.positive

  row_same : (i k : ℕ) → i ≡ k → IsNoLaterRow links rows rest products i k
  row_same i k e = subst (λ j. IsNoLaterRow links rows rest products i j) e (no_later_same links rest (nums_at rows i) (num products i))

  to_row : (i j k : ℕ) → j ≡ k → IsNoLaterRow links rows rest products i j → IsNoLaterRow links rows rest products i k
  to_row i j k e h = subst (λ x. IsNoLaterRow links rows rest products i x) e h

  -- one row more
  pub best_next : (n : ℕ) (best : Candidate) (other better : Candidate) → IsBestRow links rows rest values products n (Some best) → other.role ≡ n → IsRowCandidate links values products other
      → ((better ≡ best) × IsRowFirst links rows best other) ⊎ ((better ≡ other) × IsRowFirst links rows other best)
      → IsBestRow links rows rest values products (n + 1) (Some better)
  best_next n best other better before e o is = ⊎_elim
      (λ old. subst (λ b. IsBestRow links rows rest values products (n + 1) (Some b)) (sym old.0) (
        before.0,
        λ k l pk. ⊎_elim
            (λ less. before.1 k less pk)
            (λ ge. to_row best.role other.role k (omega (arith, e, l, ge)) (candidate_no_later best other before.0 o old.1))
            (cases_lt k n),
      ))
      (λ new. subst (λ b. IsBestRow links rows rest values products (n + 1) (Some b)) (sym new.0) (
        o,
        λ k l pk. ⊎_elim
            (λ less. no_later_trans links rest (nums_at rows other.role) (num products other.role) (nums_at rows best.role) (num products best.role) (nums_at rows k) (num products k)
            (positive_of other o) (positive_of best before.0) pk (candidate_no_later other best o before.0 new.1) (before.1 k less pk))
            (λ ge. row_same other.role k (omega (arith, e, l, ge)))
            (cases_lt k n),
      ))
      is

  -- the first of positive product
  pub best_first : (n : ℕ) (other : Candidate) → IsBestRow links rows rest values products n None → other.role ≡ n → IsRowCandidate links values products other
      → IsBestRow links rows rest values products (n + 1) (Some other)
  best_first n other before e o = (
    o,
    λ k l pk. ⊎_elim
        (λ less. absurd (omega (arith, ints, before k less, pk)))
        (λ ge. row_same other.role k (omega (arith, e, l, ge)))
        (cases_lt k n),
  )

  -- the better one
  pub better_next : (n : ℕ) (best : Option Candidate) (other better : Candidate) → IsBestRow links rows rest values products n best → other.role ≡ n → IsRowCandidate links values products other
      → IsBetterRow links rows best other better → IsBestRow links rows rest values products (n + 1) (Some better)
  better_next n None other better before e o is = subst (λ b. IsBestRow links rows rest values products (n + 1) (Some b)) (sym is) (best_first n other before e o)
  better_next n (Some best) other better before e o is = best_next n best other better before e o is
