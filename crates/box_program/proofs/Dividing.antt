-- greatest common divisors of lists
use Rattle.std.proofs.Common.{◌≡◌, ℕ, zero, suc, ◌+◌, ◌<◌, ◌↔◌, List, [], ◌∷◌, All, get_or, length, take, subst, arith}
use Rattle.net_core.proofs.Library.{All-cons, All-head, All-more, All-tail, IsGcd, dvd_trans, ◌∣◌}
use Rattle.plan_terms.specs.Terms.{IsGreatestDivisor}

-- what divides a greatest common divisor
pub divides_gcd : (a b g : ℕ) → IsGcd a b g → (d : ℕ) → (d ∣ g) ↔ (d ∣ a) × (d ∣ b)
divides_gcd a b g gcd d = (λ h. (dvd_trans d h gcd.0, dvd_trans d h gcd.1), λ h. gcd.2 d h.0 h.1)

-- what divides the greatest common divisor of a number and of others
pub divides_greatest : (x : ℕ) (xs : List ℕ) (g : ℕ) → IsGreatestDivisor (x ∷ xs) g → (d : ℕ) → (d ∣ g) ↔ (d ∣ x) × All (λ n. d ∣ n) xs
divides_greatest x xs g is d = (
  λ h. (dvd_trans d h (All-head (λ n. g ∣ n) x xs is.divides), λ k e inside. dvd_trans d h (All-tail (λ n. g ∣ n) x xs is.divides k e inside)),
  λ h. is.greatest d (All-cons (λ n. d ∣ n) x xs h.0 h.1),
)

next : (n : ℕ) → n + 1 ≡ suc n
next n = omega arith

module _ {X : Type 0} (P : X → Type 0) where
  parts_suc : (xs : List X) (i : ℕ) (x : X) → i < length xs → All P (take (suc i) xs) → All P (take i xs) × P (get_or xs i x)
  parts_suc [] i x lt all = absurd (omega arith)
  parts_suc (y ∷ ys) zero x lt all = (λ k d inside. absurd (omega arith), All-head P y [] all)
  parts_suc (y ∷ ys) (suc i) x lt all =
      let rest = parts_suc ys i x (omega arith) (All-tail P y (take (suc i) ys) all) in
      (All-cons P y (take i ys) (All-head P y (take (suc i) ys) all) rest.0, rest.1)

  -- what all of one more first items are
  take_parts : (xs : List X) (i : ℕ) (x : X) → i < length xs → All P (take (i + 1) xs) → All P (take i xs) × P (get_or xs i x)
  take_parts xs i x lt all = parts_suc xs i x lt (subst (λ n. All P (take n xs)) (next i) all)

-- one item more
pub divisors_more : {X : Type 0} (P : ℕ → X → Type 0) (unit sofar next : ℕ) (xs : List X) (i : ℕ) (x : X) → i < length xs
    → ((d : ℕ) → (d ∣ sofar) ↔ (d ∣ unit) × All (P d) (take i xs)) → ((d : ℕ) → (d ∣ next) ↔ (d ∣ sofar) × P d (get_or xs i x))
    → (d : ℕ) → (d ∣ next) ↔ (d ∣ unit) × All (P d) (take (i + 1) xs)
divisors_more P unit sofar next xs i x lt before here d = (
  λ h. let both = (here d).0 h in let old = (before d).0 both.0 in (old.0, All-more (P d) xs i x lt old.1 both.1),
  λ h. let parts = take_parts (P d) xs i x lt h.1 in (here d).1 ((before d).1 (h.0, parts.0), parts.1),
)
