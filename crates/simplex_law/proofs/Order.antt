-- the lexicographic order of rows
use Rattle.std.proofs.Common.{◌≡◌, ◌⊎◌, ℕ, zero, suc, ◌<◌, ◌≤◌, ◌+◌, sym, ap, ◌∙◌, arith, inl, inr, ⊎_elim, subst, ℤ, pos, ◌+ℤ◌, ◌-ℤ◌, ◌*ℤ◌, ◌<ℤ◌, ◌≤ℤ◌}
use Rattle.net_core.proofs.Library.{*ℤ_comm, *ℤ-zero, ints, by_lt_z}
use Rattle.checked_fraction.{specs.Terms.combined, proofs.Products.{regroup, positive_product, cancelled}}
use Rattle.simplex_law.{specs.inner.Lexicographic.{IsLexNonneg, valued}, proofs.Arithmetic.{distribute_minus, minus_left, swap_last, moved_out, times_negative, times_nonneg, times_less, positive_cancel, zero_cancel, lt_cancel, weaken}}

-- the first of n numbers that isn't 0 is positive
abbrev pub IsLexPositive : ℕ → (ℕ → ℤ) → Type 0
IsLexPositive zero v = ⊥
IsLexPositive (suc n) v = (pos 0 <ℤ v 0) ⊎ ((v 0 ≡ pos 0) × IsLexPositive n (λ k. v (suc k)))

-- n numbers y over d come before the numbers z over e
abbrev pub IsLexBelow : ℕ → (ℕ → ℤ) → ℤ → (ℕ → ℤ) → ℤ → Type 0
IsLexBelow zero y d z e = ⊥
IsLexBelow (suc n) y d z e = ((y 0 *ℤ e) <ℤ (z 0 *ℤ d)) ⊎ ((y 0 *ℤ e ≡ z 0 *ℤ d) × IsLexBelow n (λ k. y (suc k)) d (λ k. z (suc k)) e)

-- the duals and their value rise
abbrev pub Rises : ℕ → (ℕ → ℤ) → (ℕ → ℤ) → ℤ → (ℕ → ℤ) → ℤ → Type 0
Rises m bound duals den later later_den = IsLexBelow (suc m) (valued m bound duals) den (valued m bound later) later_den

-- a row whose number p is negative stays 0 or more
pub lex_negative : (n : ℕ) (u w : ℕ → ℤ) (p q : ℤ) → p <ℤ pos 0 → pos 0 <ℤ q → IsLexNonneg n u → IsLexNonneg n w → IsLexNonneg n (combined u p w q)
lex_negative zero u w p q less more hu hw = tt
lex_negative (suc n) u w p q less more hu hw = ⊎_elim
    (λ above. let here : pos 0 <ℤ (u 0 *ℤ q) = positive_product (u 0) q above more in ⊎_elim
    (λ a. inl (omega (arith, ints, here, times_negative p (w 0) less a)))
    (λ z. inl (rw (z.0) (omega (arith, ints, here))))
    hw)
    (λ none. ⊎_elim
    (λ a. inl (rw (none.0) (omega (arith, ints, times_negative p (w 0) less a))))
    (λ z. inr (rw (none.0, z.0) (omega (arith, ints)), lex_negative n (λ k. u (suc k)) (λ k. w (suc k)) p q less more none.1 z.1))
    hw)
    hu

pub lex_zero : (n : ℕ) (u w : ℕ → ℤ) (q : ℤ) → pos 0 <ℤ q → IsLexNonneg n u → IsLexNonneg n (combined u (pos 0) w q)
lex_zero zero u w q more hu = tt
lex_zero (suc n) u w q more hu = ⊎_elim
    (λ above. inl (omega (arith, ints, positive_product (u 0) q above more)))
    (λ none. inr (rw (none.0) (omega (arith, ints)), lex_zero n (λ k. u (suc k)) (λ k. w (suc k)) q more none.1))
    hu

pub lex_positive : (n : ℕ) (v : ℕ → ℤ) → IsLexNonneg n v → (((k : ℕ) → k < n → v k ≡ pos 0) → ⊥) → IsLexPositive n v
lex_positive zero v h some = some (λ k l. absurd (omega arith))
lex_positive (suc n) v h some = ⊎_elim
    (λ above. inl above)
    (λ none. inr (none.0, lex_positive n (λ k. v (suc k)) none.1 (λ all. some (from_front none.0 all))))
    h
  where
    from_front : v 0 ≡ pos 0 → ((k : ℕ) → k < n → v (suc k) ≡ pos 0) → (k : ℕ) → k < suc n → v k ≡ pos 0
    from_front z all zero l = z
    from_front z all (suc k) l = all k (omega arith)

-- the objective row rises
pub lex_rises : (n : ℕ) (y w : ℕ → ℤ) (p q d : ℤ) → p <ℤ pos 0 → pos 0 <ℤ q → pos 0 <ℤ d → IsLexPositive n w → IsLexBelow n y d (combined y p w q) (d *ℤ q)
lex_rises zero y w p q d less more over h = h
lex_rises (suc n) y w p q d less more over h =
    let e = distribute_minus (y 0 *ℤ q) (p *ℤ w 0) d in
    let f : (y 0 *ℤ q) *ℤ d ≡ y 0 *ℤ (d *ℤ q) = swap_last (y 0) q d ∙ regroup (y 0) d q in
    ⊎_elim
    (λ a. inl (omega (arith, ints, e, f, times_negative (p *ℤ w 0) d (times_negative p (w 0) less a) over)))
    (λ z. inr (sym (ap (λ s. ((y 0 *ℤ q) -ℤ (p *ℤ s)) *ℤ d) z.0 ∙ (ap (λ s. s *ℤ d) (omega (arith, ints)) ∙ f)), lex_rises n (λ k. y (suc k)) (λ k. w (suc k)) p q d less more over z.1))
    h

-- where a vector isn't negative in lexicographic order, nor is one that equals it but for positive factors
pub lex_scaled : (n : ℕ) (u v : ℕ → ℤ) (g h : ℤ) → pos 0 <ℤ g → pos 0 <ℤ h → ((k : ℕ) → k < n → g *ℤ u k ≡ h *ℤ v k) → IsLexNonneg n u → IsLexNonneg n v
lex_scaled zero u v g h pg ph e lex = tt
lex_scaled (suc n) u v g h pg ph e lex = ⊎_elim
    (λ above. inl (positive_cancel h (v 0) ph (subst (λ x. pos 0 <ℤ x) (e 0 (omega arith)) (positive_product g (u 0) pg above))))
    (λ none. inr (
      zero_cancel h (v 0) ph (sym (e 0 (omega arith)) ∙ (ap (λ x. g *ℤ x) none.0 ∙ *ℤ-zero g)),
      lex_scaled n (λ k. u (suc k)) (λ k. v (suc k)) g h pg ph (λ k l. e (suc k) (omega (arith, l))) none.1,
    ))
    lex

pub below_scaled : (n : ℕ) (y u v : ℕ → ℤ) (d whole e : ℤ) → pos 0 <ℤ whole → pos 0 <ℤ e → ((k : ℕ) → k < n → e *ℤ u k ≡ whole *ℤ v k)
    → IsLexBelow n y d u whole → IsLexBelow n y d v e
below_scaled zero y u v d whole e pw pe same h = h
below_scaled (suc n) y u v d whole e pw pe same h =
    let left : e *ℤ (y 0 *ℤ whole) ≡ whole *ℤ (y 0 *ℤ e) = moved_out e (y 0) whole ∙ (ap (λ s. y 0 *ℤ s) (*ℤ_comm e whole) ∙ moved_out (y 0) whole e) in
    let right : e *ℤ (u 0 *ℤ d) ≡ whole *ℤ (v 0 *ℤ d) = sym (regroup e (u 0) d) ∙ (ap (λ s. s *ℤ d) (same 0 (omega arith)) ∙ regroup whole (v 0) d) in
    ⊎_elim
    (λ l. inl (lt_cancel whole (y 0 *ℤ e) (v 0 *ℤ d) pw (omega (arith, ints, left, right, times_less e (y 0 *ℤ whole) (u 0 *ℤ d) pe l))))
    (λ s. inr (
      cancelled whole (y 0 *ℤ e) (v 0 *ℤ d) pw (sym left ∙ (ap (λ x. e *ℤ x) s.0 ∙ right)),
      below_scaled n (λ k. y (suc k)) (λ k. u (suc k)) (λ k. v (suc k)) d whole e pw pe (λ k l. same (suc k) (omega (arith, l))) s.1,
    ))
    h

-- what is, but for a positive factor, a sum of positive multiples of two
pub lex_sum : (n : ℕ) (v x y : ℕ → ℤ) (g a b : ℤ) → pos 0 <ℤ g → pos 0 <ℤ a → pos 0 <ℤ b → ((k : ℕ) → k < n → g *ℤ v k ≡ (a *ℤ x k) +ℤ (b *ℤ y k))
    → IsLexNonneg n x → IsLexNonneg n y → IsLexNonneg n v
lex_sum zero v x y g a b pg pa pb e hx hy = tt
lex_sum (suc n) v x y g a b pg pa pb e hx hy =
    let here = e 0 (omega arith) in
    ⊎_elim
    (λ above. inl (positive_cancel g (v 0) pg (omega (arith, ints, here, positive_product a (x 0) pa above, times_nonneg b (y 0) (weaken b pb) (first_nonneg hy)))))
    (λ none. ⊎_elim
    (λ above. inl (positive_cancel g (v 0) pg (omega (arith, ints, here, positive_product b (y 0) pb above, ap (λ t. a *ℤ t) none.0 ∙ *ℤ-zero a))))
    (λ z. inr (
      zero_cancel g (v 0) pg (omega (arith, ints, here, ap (λ t. a *ℤ t) none.0 ∙ *ℤ-zero a, ap (λ t. b *ℤ t) z.0 ∙ *ℤ-zero b)),
      lex_sum n (λ k. v (suc k)) (λ k. x (suc k)) (λ k. y (suc k)) g a b pg pa pb (λ k l. e (suc k) (omega arith)) none.1 z.1,
    ))
    hy)
    hx
  where
    first_nonneg : IsLexNonneg (suc n) y → pos 0 ≤ℤ y 0
    first_nonneg h = ⊎_elim (λ l. omega (arith, ints, l)) (λ z. omega (arith, ints, z.0)) h

-- by this the order of the ratio test is transitive: it is the sum for two ratios in a row
pub crossed : (u v w p q r : ℤ) → q *ℤ ((w *ℤ p) -ℤ (r *ℤ u)) ≡ (p *ℤ ((w *ℤ q) -ℤ (r *ℤ v))) +ℤ (r *ℤ ((v *ℤ p) -ℤ (q *ℤ u)))
crossed u v w p q r =
    let one : q *ℤ ((w *ℤ p) -ℤ (r *ℤ u)) ≡ (q *ℤ (w *ℤ p)) -ℤ (q *ℤ (r *ℤ u)) = minus_left (w *ℤ p) (r *ℤ u) q in
    let two : p *ℤ ((w *ℤ q) -ℤ (r *ℤ v)) ≡ (p *ℤ (w *ℤ q)) -ℤ (p *ℤ (r *ℤ v)) = minus_left (w *ℤ q) (r *ℤ v) p in
    let three : r *ℤ ((v *ℤ p) -ℤ (q *ℤ u)) ≡ (r *ℤ (v *ℤ p)) -ℤ (r *ℤ (q *ℤ u)) = minus_left (v *ℤ p) (q *ℤ u) r in
    let a : q *ℤ (w *ℤ p) ≡ p *ℤ (w *ℤ q) = moved_out q w p ∙ (ap (λ t. w *ℤ t) (*ℤ_comm q p) ∙ moved_out w p q) in
    let b : p *ℤ (r *ℤ v) ≡ r *ℤ (v *ℤ p) = moved_out p r v ∙ ap (λ t. r *ℤ t) (*ℤ_comm p v) in
    let c : q *ℤ (r *ℤ u) ≡ r *ℤ (q *ℤ u) = moved_out q r u in
    omega (arith, ints, one, two, three, a, b, c)

-- where the first place that isn't 0 is known
pub lex_at : (n at : ℕ) (v : ℕ → ℤ) → at < n → ((k : ℕ) → k < at → v k ≡ pos 0) → pos 0 <ℤ v at → IsLexNonneg n v
lex_at zero at v lt none above = absurd (omega arith)
lex_at (suc n) zero v lt none above = inl above
lex_at (suc n) (suc at) v lt none above = inr (none 0 (omega arith), lex_at n at (λ k. v (suc k)) (omega arith) (λ k l. none (suc k) (omega arith)) above)

pub lex_none : (n : ℕ) (v : ℕ → ℤ) → ((k : ℕ) → k < n → v k ≡ pos 0) → IsLexNonneg n v
lex_none zero v none = tt
lex_none (suc n) v none = inr (none 0 (omega arith), lex_none n (λ k. v (suc k)) (λ k l. none (suc k) (omega arith)))

-- a vector that is 0 before some place and nowhere negative from there on isn't negative in lexicographic order
pub lex_rest : (n at : ℕ) (v : ℕ → ℤ) → ((k : ℕ) → k < at → k < n → v k ≡ pos 0) → ((k : ℕ) → at ≤ k → k < n → pos 0 ≤ℤ v k) → IsLexNonneg n v
lex_rest zero at v none high = tt
lex_rest (suc n) zero v none high = by_lt_z (pos 0) (v 0)
    (λ above. inl above)
    (λ low. inr (both (v 0) (high 0 (omega arith) (omega arith)) low, lex_rest n zero (λ k. v (suc k)) (λ k l lk. absurd (omega (arith, l))) (λ k g l. high (suc k) (omega arith) (omega (arith, l)))))
  where
    both : (x : ℤ) → pos 0 ≤ℤ x → x ≤ℤ pos 0 → x ≡ pos 0
    both x a b = omega (arith, ints, a, b)
lex_rest (suc n) (suc at) v none high = inr (
  none 0 (omega arith) (omega arith),
  lex_rest n at (λ k. v (suc k)) (λ k l lk. none (suc k) (omega (arith, l)) (omega (arith, lk))) (λ k g l. high (suc k) (omega (arith, g)) (omega (arith, l))),
)

-- further numbers, which are 0 where the first n are
pub lex_more : (n r : ℕ) (u v : ℕ → ℤ) → ((k : ℕ) → k < n → u k ≡ v k) → (((k : ℕ) → k < n → u k ≡ pos 0) → (k : ℕ) → k < r → v (n + k) ≡ pos 0) → IsLexNonneg n u → IsLexNonneg (n + r) v
lex_more zero r u v same rest h = subst (λ m. IsLexNonneg m v) (zero_first r) (lex_none r v (λ k l. subst (λ m. v m ≡ pos 0) (sym (zero_first k)) (rest (λ j lj. absurd (omega (arith, lj))) k l)))
  where
    zero_first : (r : ℕ) → r ≡ 0 + r
    zero_first r = omega arith
lex_more (suc n) r u v same rest h = subst (λ m. IsLexNonneg m v) (suc_first n r) (⊎_elim
    (λ above. inl (subst (λ x. pos 0 <ℤ x) (same 0 (omega arith)) above))
    (λ none. inr (
      sym (same 0 (omega arith)) ∙ none.0,
      lex_more n r (λ k. u (suc k)) (λ k. v (suc k)) (λ k l. same (suc k) (omega (arith, l)))
          (λ zero_there k l. subst (λ m. v m ≡ pos 0) (sym (suc_first n k)) (rest (from_front none.0 zero_there) k l)) none.1,
    ))
    h)
  where
    suc_first : (n r : ℕ) → suc (n + r) ≡ suc n + r
    suc_first n r = omega arith

    from_front : u 0 ≡ pos 0 → ((k : ℕ) → k < n → u (suc k) ≡ pos 0) → (k : ℕ) → k < suc n → u k ≡ pos 0
    from_front z all zero l = z
    from_front z all (suc k) l = all k (omega (arith, l))
