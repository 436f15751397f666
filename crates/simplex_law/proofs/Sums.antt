-- sums of whole numbers
use Rattle.std.proofs.Common.{◌≡◌, ◌≢◌, ℕ, zero, suc, ◌+◌, ◌<◌, ◌≤◌, refl, sym, ap, ◌∙◌, arith, cond, ⊎_elim, eq-eqb, ne_eqb, ℤ, pos, ◌+ℤ◌, ◌-ℤ◌, ◌*ℤ◌, ◌≤ℤ◌}
use Rattle.net_core.proofs.Library.{cases_eq, cases_lt, *ℤ_comm, zero-*ℤ, *ℤ-zero, ints}
use Rattle.checked_fraction.proofs.Products.{regroup}
use Rattle.simplex_law.{specs.Sums.{int_sum, dot, unit_vector, put}, proofs.Arithmetic.distribute_left}

pub sum-plus : (n : ℕ) (f g : ℕ → ℤ) → int_sum n (λ k. f k +ℤ g k) ≡ int_sum n f +ℤ int_sum n g
sum-plus zero f g = refl
sum-plus (suc n) f g = omega (arith, ints, sum-plus n f g)

pub sum-minus : (n : ℕ) (f g : ℕ → ℤ) → int_sum n (λ k. f k -ℤ g k) ≡ int_sum n f -ℤ int_sum n g
sum-minus zero f g = refl
sum-minus (suc n) f g = omega (arith, ints, sum-minus n f g)

pub sum-times : (n : ℕ) (c : ℤ) (f : ℕ → ℤ) → int_sum n (λ k. c *ℤ f k) ≡ c *ℤ int_sum n f
sum-times zero c f = omega (arith, ints)
sum-times (suc n) c f = ap (λ s. s +ℤ (c *ℤ f n)) (sum-times n c f) ∙ sym (distribute_left (int_sum n f) (f n) c)

pub sum-same : (n : ℕ) (f g : ℕ → ℤ) → ((k : ℕ) → k < n → f k ≡ g k) → int_sum n f ≡ int_sum n g
sum-same zero f g e = refl
sum-same (suc n) f g e = omega (arith, ints, e n (omega arith), sum-same n f g (λ k l. e k (omega arith)))

pub sum-le : (n : ℕ) (f g : ℕ → ℤ) → ((k : ℕ) → k < n → f k ≤ℤ g k) → int_sum n f ≤ℤ int_sum n g
sum-le zero f g e = omega (arith, ints)
sum-le (suc n) f g e = omega (arith, ints, e n (omega arith), sum-le n f g (λ k l. e k (omega arith)))

pub sum-none : (n : ℕ) → int_sum n (λ k. pos 0) ≡ pos 0
sum-none zero = refl
sum-none (suc n) = omega (arith, ints, sum-none n)

-- a sum over the first n and the q after them
pub sum-split : (n q : ℕ) (f : ℕ → ℤ) → int_sum (n + q) f ≡ int_sum n f +ℤ int_sum q (λ k. f (n + k))
sum-split n zero f = ap (λ m. int_sum m f) (none n) ∙ nothing (int_sum n f)
  where
    none : (n : ℕ) → n + 0 ≡ n
    none n = omega arith

    nothing : (x : ℤ) → x ≡ x +ℤ pos 0
    nothing x = omega (arith, ints)
sum-split n (suc q) f = ap (λ m. int_sum m f) (more n q) ∙ omega (arith, ints, sum-split n q f)
  where
    more : (n q : ℕ) → n + suc q ≡ suc (n + q)
    more n q = omega arith

pub sum-swapped : (m n : ℕ) (f : ℕ → ℕ → ℤ) → int_sum m (λ j. int_sum n (f j)) ≡ int_sum n (λ k. int_sum m (λ j. f j k))
sum-swapped zero n f = sym (sum-none n)
sum-swapped (suc m) n f = ap (λ s. s +ℤ int_sum n (f m)) (sum-swapped m n f) ∙ sym (sum-plus n (λ k. int_sum m (λ j. f j k)) (f m))

past_put : (n r : ℕ) (f : ℕ → ℤ) (x : ℤ) → n ≤ r → int_sum n (put f r x) ≡ int_sum n f
past_put n r f x le = sum-same n _ _ (λ k l. ap (λ b. cond b x (f k)) (ne_eqb r k (λ e. omega arith)))

pub sum-put : (n r : ℕ) (f : ℕ → ℤ) (x : ℤ) → r < n → int_sum n (put f r x) ≡ (int_sum n f +ℤ x) -ℤ f r
sum-put zero r f x lt = absurd (omega arith)
sum-put (suc n) r f x lt = ⊎_elim
    (λ l. omega (arith, ints, sum-put n r f x l, ap (λ b. cond b x (f n)) (ne_eqb r n (λ e. omega arith))))
    (λ g. let e : r ≡ n = omega arith in
    omega (arith, ints, past_put n r f x g, ap (λ b. cond b x (f n)) (eq-eqb r n e), ap f e))
    (cases_lt r n)

-- one place alone counts
pub sum-one : (m r : ℕ) (f : ℕ → ℤ) (x : ℤ) → r < m → ((k : ℕ) → k < m → k ≢ r → f k ≡ pos 0) → f r ≡ x → int_sum m f ≡ x
sum-one m r f x lt none here =
    sum-same m f (put (λ k. pos 0) r x) (λ k l. ⊎_elim
    (λ e. ap f (sym e) ∙ (here ∙ sym (ap (λ t. cond t x (pos 0)) (eq-eqb r k e))))
    (λ ne. none k l (λ e. ne (sym e)) ∙ sym (ap (λ t. cond t x (pos 0)) (ne_eqb r k ne)))
    (cases_eq r k))
    ∙ omega (arith, ints, sum-put m r (λ k. pos 0) x lt, sum-none m)

pub unit-same : (k : ℕ) → unit_vector k k ≡ pos 1
unit-same k = ap (λ t. cond t (pos 1) (pos 0)) (eq-eqb k k refl)

pub unit-other : (k l : ℕ) → k ≢ l → unit_vector k l ≡ pos 0
unit-other k l ne = ap (λ t. cond t (pos 1) (pos 0)) (ne_eqb k l ne)

pub sum-unit : (m k : ℕ) (v : ℕ → ℤ) → k < m → int_sum m (λ l. v l *ℤ unit_vector k l) ≡ v k
sum-unit m k v lt = sum-one m k _ (v k) lt
    (λ l h ne. ap (λ x. v l *ℤ x) (unit-other k l (λ e. ne (sym e))) ∙ *ℤ-zero (v l))
    (ap (λ x. v k *ℤ x) (unit-same k) ∙ omega (arith, ints))

pub dot-same : (m : ℕ) (u v a b : ℕ → ℤ) → ((k : ℕ) → k < m → u k ≡ v k) → ((k : ℕ) → k < m → a k ≡ b k) → dot m u a ≡ dot m v b
dot-same m u v a b e f = sum-same m _ _ (λ k l. ap (λ s. s *ℤ a k) (e k l) ∙ ap (λ s. v k *ℤ s) (f k l))

pub dot-none : (m : ℕ) (u v : ℕ → ℤ) → ((k : ℕ) → k < m → u k ≡ pos 0) → dot m u v ≡ pos 0
dot-none m u v h = sum-same m _ (λ k. pos 0) (λ k l. ap (λ s. s *ℤ v k) (h k l) ∙ zero-*ℤ (v k)) ∙ sum-none m

pub dot-none-column : (m : ℕ) (u v : ℕ → ℤ) → ((k : ℕ) → k < m → v k ≡ pos 0) → dot m u v ≡ pos 0
dot-none-column m u v h = sum-same m _ (λ k. pos 0) (λ k l. ap (λ s. u k *ℤ s) (h k l) ∙ *ℤ-zero (u k)) ∙ sum-none m

-- a row times a unit column, and a unit row times a column
pub dot-unit : (m i : ℕ) (u v : ℕ → ℤ) → i < m → ((k : ℕ) → k < m → v k ≡ unit_vector i k) → dot m u v ≡ u i
dot-unit m i u v lt e = dot-same m u u v (unit_vector i) (λ k l. refl) e ∙ sum-unit m i u lt

pub dot-of-unit : (m i : ℕ) (u v : ℕ → ℤ) → i < m → ((k : ℕ) → k < m → u k ≡ unit_vector i k) → dot m u v ≡ v i
dot-of-unit m i u v lt e =
    dot-same m u (unit_vector i) v v e (λ k l. refl)
    ∙ (sum-same m _ _ (λ k l. *ℤ_comm (unit_vector i k) (v k)) ∙ sum-unit m i v lt)

pub dot-times : (m : ℕ) (g : ℤ) (u v : ℕ → ℤ) → dot m (λ k. g *ℤ u k) v ≡ g *ℤ dot m u v
dot-times m g u v = sum-same m _ _ (λ k l. regroup g (u k) (v k)) ∙ sum-times m g (λ k. u k *ℤ v k)
