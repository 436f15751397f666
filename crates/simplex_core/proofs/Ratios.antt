-- the order of the ratio test over the rows that the code has
use Rattle.std.proofs.Common.{◌≡◌, ℕ, suc, ◌<◌, ◌+◌, List, length, Option, Some, None, Ok, refl, sym, ap, subst, ◌∙◌, arith, ⊎_elim, inr, option_map, ℤ, pos, ◌*ℤ◌, ◌<ℤ◌, ◌≤ℤ◌, Ordering, Less, Equal, Greater}
use Rattle.net_core.proofs.Library.{ints, cases_lt}
use Rattle.checked_fraction.{specs.Terms.{num, combined}, specs.declared.row.Row.Row}
use Rattle.simplex_law.{specs.Terms.{dot, valued, IsNoLater}, proofs.Lemmas.{lex_at, lex_none, lex_sum, crossed, gone, over}}
use Rattle.simplex_core.{specs.Tables.nums_at, specs.inner.Ratios.{IsCandidate, ComparesRatios, IsFirstOf, IsBetter, IsRowNoLater, IsBestBefore, IsLeavingRow}, specs.Orders.{IsFirstLess, ComparesNumbers}, specs.declared.ratio_test.Candidate.Candidate}

pub no_later_trans : (m : ℕ) (bound u : ℕ → ℤ) (p : ℤ) (v : ℕ → ℤ) (q : ℤ) (w : ℕ → ℤ) (r : ℤ) → pos 0 <ℤ p → pos 0 <ℤ q → pos 0 <ℤ r
    → IsNoLater m bound u p v q → IsNoLater m bound v q w r → IsNoLater m bound u p w r
no_later_trans m bound u p v q w r pp pq pr h i =
    lex_sum (suc m)
    (combined (valued m bound w) r (valued m bound u) p)
    (combined (valued m bound w) r (valued m bound v) q)
    (combined (valued m bound v) q (valued m bound u) p)
    q p r pq pp pr
    (λ k l. crossed (valued m bound u k) (valued m bound v k) (valued m bound w k) p q r)
    i h

pub no_later_same : (m : ℕ) (bound u : ℕ → ℤ) (p : ℤ) → IsNoLater m bound u p u p
no_later_same m bound u p = lex_none (suc m) (combined (valued m bound u) p (valued m bound u) p) (λ k l. gone (valued m bound u k) (valued m bound u k) p p refl)

-- else the numbers do
row_less : (m : ℕ) (bound u : ℕ → ℤ) (p : ℤ) (v : ℕ → ℤ) (q x y : ℤ) → x ≡ dot m u bound → y ≡ dot m v bound → x *ℤ q ≡ y *ℤ p
    → IsFirstLess m (λ k. u k *ℤ q) (λ k. v k *ℤ p) → IsNoLater m bound u p v q
row_less m bound u p v q x y ex ey same first =
    inr (
      gone (dot m u bound) (dot m v bound) p q (ap (λ a. a *ℤ q) (sym ex) ∙ (same ∙ ap (λ b. b *ℤ p) ey)),
      lex_at m first.0 (combined v q u p) first.1
          (λ k l. gone (u k) (v k) p q (first.2 k l))
          (over (u first.0) (v first.0) p q first.3),
    )

row_equal : (m : ℕ) (bound u : ℕ → ℤ) (p : ℤ) (v : ℕ → ℤ) (q x y : ℤ) → x ≡ dot m u bound → y ≡ dot m v bound → x *ℤ q ≡ y *ℤ p
    → ((k : ℕ) → k < m → u k *ℤ q ≡ v k *ℤ p) → IsNoLater m bound u p v q
row_equal m bound u p v q x y ex ey same all =
    inr (
      gone (dot m u bound) (dot m v bound) p q (ap (λ a. a *ℤ q) (sym ex) ∙ (same ∙ ap (λ b. b *ℤ p) ey)),
      lex_none m (combined v q u p) (λ k l. gone (u k) (v k) p q (all k l)),
    )

pub by_rows : (m : ℕ) (bound u : ℕ → ℤ) (p : ℤ) (v : ℕ → ℤ) (q x y : ℤ) (order : Ordering) → x ≡ dot m u bound → y ≡ dot m v bound → x *ℤ q ≡ y *ℤ p
    → ComparesNumbers m (λ k. u k *ℤ q) (λ k. v k *ℤ p) order → ComparesRatios m bound u p v q order
by_rows m bound u p v q x y Less ex ey same c = row_less m bound u p v q x y ex ey same c
by_rows m bound u p v q x y Equal ex ey same c = row_equal m bound v q u p y x ey ex (sym same) (λ k l. sym (c k l))
by_rows m bound u p v q x y Greater ex ey same c = row_less m bound v q u p y x ey ex (sym same) c

module _ (rows : List Row) (bounds products : List ℤ) where
  -- row r comes no later than row k, by the candidates that they are
  placed : (first second : Candidate) (k : ℕ) → IsCandidate (length rows) rows bounds products first → IsCandidate (length rows) rows bounds products second → second.row ≡ k
      → IsFirstOf rows (num bounds) first second → IsRowNoLater (length rows) rows bounds products first.row k
  placed first second k f s e h =
      subst (λ i. IsRowNoLater (length rows) rows bounds products first.row i) e
      (subst (λ p. IsNoLater (length rows) (num bounds) (nums_at rows first.row) p (nums_at rows second.row) (num products second.row)) f.product
      (subst (λ q. IsNoLater (length rows) (num bounds) (nums_at rows first.row) first.product (nums_at rows second.row) q) s.product h))

  row_same : (first : Candidate) (k : ℕ) → first.row ≡ k → IsRowNoLater (length rows) rows bounds products first.row k
  row_same first k e = subst (λ i. IsRowNoLater (length rows) rows bounds products first.row i) e (no_later_same (length rows) (num bounds) (nums_at rows first.row) (num products first.row))

  row_trans : (first second : Candidate) (k : ℕ) → IsCandidate (length rows) rows bounds products first → IsCandidate (length rows) rows bounds products second → pos 0 <ℤ num products k
      → IsFirstOf rows (num bounds) first second → IsRowNoLater (length rows) rows bounds products second.row k → IsRowNoLater (length rows) rows bounds products first.row k
  row_trans first second k f s pk h i = no_later_trans (length rows) (num bounds) (nums_at rows first.row) (num products first.row) (nums_at rows second.row) (num products second.row) (nums_at rows k) (num products k)
      (subst (λ x. pos 0 <ℤ x) f.product f.placed.positive) (subst (λ x. pos 0 <ℤ x) s.product s.placed.positive) pk
      (placed first second second.row f s refl h) i

  -- one row more
  pub best_next : (n : ℕ) (best : Option Candidate) (other better : Candidate) → IsBestBefore (length rows) rows bounds products n best
      → other.row ≡ n → IsCandidate (length rows) rows bounds products other → IsBetter rows best other better
      → IsBestBefore (length rows) rows bounds products (n + 1) (Some better)
  best_next n None other better before e o is = subst (λ b. IsBestBefore (length rows) rows bounds products (n + 1) (Some b)) (sym is) (
    o,
    λ k l pk. ⊎_elim
        (λ less. absurd (omega (arith, ints, before k less, pk)))
        (λ ge. row_same other k (omega arith))
        (cases_lt k n),
  )
  best_next n (Some best) other better before e o is = ⊎_elim
      (λ old. subst (λ b. IsBestBefore (length rows) rows bounds products (n + 1) (Some b)) (sym old.0) (
        before.0,
        λ k l pk. ⊎_elim
            (λ less. before.1 k less pk)
            (λ ge. placed best other k before.0 o (omega arith) (old.1 (num bounds) (o.value, before.0.value)))
            (cases_lt k n),
      ))
      (λ new. subst (λ b. IsBestBefore (length rows) rows bounds products (n + 1) (Some b)) (sym new.0) (
        o,
        λ k l pk. ⊎_elim
            (λ less. row_trans other best k o before.0 pk (new.1 (num bounds) (o.value, before.0.value)) (before.1 k less pk))
            (λ ge. row_same other k (omega arith))
            (cases_lt k n),
      ))
      is

  -- the best of all rows
  pub leaves : (n : ℕ) (best : Option Candidate) → n ≡ length rows → IsBestBefore (length rows) rows bounds products n best
      → IsLeavingRow (length rows) rows bounds products (Ok (option_map (λ c. c.row) best))
  leaves n None e before = subst (λ n. (k : ℕ) → k < n → num products k ≤ℤ pos 0) e before
  leaves n (Some best) e before = (
    before.0.placed.inside,
    subst (λ x. pos 0 <ℤ x) before.0.product before.0.placed.positive,
    subst (λ n. (k : ℕ) → k < n → pos 0 <ℤ num products k → IsRowNoLater (length rows) rows bounds products best.row k) e before.1,
  )
