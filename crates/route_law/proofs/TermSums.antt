-- sums of pairs of units, differences of rows, and bounds of sums by their terms
use Rattle.std.proofs.Common.{◌≡◌, ℕ, zero, suc, ◌<◌, arith, ◌∙◌, ℤ, pos, ◌+ℤ◌, ◌-ℤ◌, ◌*ℤ◌, ◌≤ℤ◌}
use Rattle.net_core.proofs.Library.{ints}
use Rattle.simplex_law.{specs.Terms.{int_sum, dot, unit_vector}, proofs.Lemmas.{distribute_left, distribute_minus, sum-same, sum-plus, sum-minus, sum-unit}}

-- a row times a column with two ones
pub dot-pair : (m i l : ℕ) (u : ℕ → ℤ) → i < m → l < m → dot m u (λ k. unit_vector i k +ℤ unit_vector l k) ≡ u i +ℤ u l
dot-pair m i l u li ll =
    sum-same m _ _ (λ k h. distribute_left (unit_vector i k) (unit_vector l k) (u k))
    ∙ (sum-plus m (λ k. u k *ℤ unit_vector i k) (λ k. u k *ℤ unit_vector l k) ∙ omega (arith, ints, sum-unit m i u li, sum-unit m l u ll))

pub dot-minus : (m : ℕ) (a b v : ℕ → ℤ) → dot m (λ k. a k -ℤ b k) v ≡ dot m a v -ℤ dot m b v
dot-minus m a b v = sum-same m _ _ (λ k h. distribute_minus (a k) (b k) (v k)) ∙ sum-minus m (λ k. a k *ℤ v k) (λ k. b k *ℤ v k)

-- numbers of at most 1 sum to at most their count
pub sum_of_ones : (m : ℕ) (f : ℕ → ℤ) → ((k : ℕ) → k < m → f k ≤ℤ pos 1) → int_sum m f ≤ℤ pos m
sum_of_ones zero f low = omega (arith, ints)
sum_of_ones (suc m) f low = omega (arith, ints, sum_of_ones m f (λ k l. low k (omega (arith, l))), low m (omega arith))
