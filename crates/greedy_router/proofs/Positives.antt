-- numbers that fall: fewer of them are above 0
use Rattle.std.proofs.Common.{◌≡◌, ℕ, zero, suc, ◌+◌, ◌<◌, ◌≤◌, List, [], ◌∷◌, get_or, length, arith}
use Rattle.greedy_router.specs.inner.FullLinks.{positives}

pub fewer : (xs ys : List ℕ) → length ys ≡ length xs → ((e : ℕ) → get_or ys e 0 ≤ get_or xs e 0) → positives ys ≤ positives xs
fewer [] [] same le = omega arith
fewer (zero ∷ xs) (zero ∷ ys) same le = fewer xs ys (omega (arith, same)) (λ e. le (suc e))
fewer (suc x ∷ xs) (zero ∷ ys) same le = omega (arith, fewer xs ys (omega (arith, same)) (λ e. le (suc e)))
fewer (suc x ∷ xs) (suc y ∷ ys) same le = omega (arith, fewer xs ys (omega (arith, same)) (λ e. le (suc e)))
fewer (zero ∷ xs) (suc y ∷ ys) same le = absurd (omega (arith, le 0))
fewer [] (y ∷ ys) same le = absurd (omega (arith, same))
fewer (x ∷ xs) [] same le = absurd (omega (arith, same))

-- one fell to 0
pub one_fewer : (xs ys : List ℕ) (i : ℕ) → length ys ≡ length xs → ((e : ℕ) → get_or ys e 0 ≤ get_or xs e 0) → 0 < get_or xs i 0 → get_or ys i 0 ≡ 0 → positives ys + 1 ≤ positives xs
one_fewer [] [] i same le some none = absurd (omega (arith, some))
one_fewer (zero ∷ xs) (y ∷ ys) zero same le some none = absurd (omega (arith, some))
one_fewer (suc x ∷ xs) (zero ∷ ys) zero same le some none = omega (arith, fewer xs ys (omega (arith, same)) (λ e. le (suc e)))
one_fewer (suc x ∷ xs) (suc y ∷ ys) zero same le some none = absurd (omega (arith, none))
one_fewer (zero ∷ xs) (zero ∷ ys) (suc i) same le some none = one_fewer xs ys i (omega (arith, same)) (λ e. le (suc e)) some none
one_fewer (suc x ∷ xs) (zero ∷ ys) (suc i) same le some none = omega (arith, one_fewer xs ys i (omega (arith, same)) (λ e. le (suc e)) some none)
one_fewer (suc x ∷ xs) (suc y ∷ ys) (suc i) same le some none = omega (arith, one_fewer xs ys i (omega (arith, same)) (λ e. le (suc e)) some none)
one_fewer (zero ∷ xs) (suc y ∷ ys) (suc i) same le some none = absurd (omega (arith, le 0))
one_fewer [] (y ∷ ys) i same le some none = absurd (omega (arith, same))
one_fewer (x ∷ xs) [] i same le some none = absurd (omega (arith, same))

pub few_positives : (xs : List ℕ) → positives xs ≤ length xs
few_positives [] = omega arith
few_positives (zero ∷ xs) = omega (arith, few_positives xs)
few_positives (suc x ∷ xs) = omega (arith, few_positives xs)
