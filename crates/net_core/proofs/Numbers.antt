-- products and divisors of numbers
use Rattle.std.{proofs.Common.{◌≡◌, ℕ, zero, suc, ◌*◌, ◌<◌, arith}, specs.Int.◌∣◌, proofs.Math.Nat.zero-dvd}

pub positive_divisor : (g n : ℕ) → 0 < n → g ∣ n → 0 < g
positive_divisor zero n p h = let e : n ≡ 0 = zero-dvd.0 h in absurd (omega arith)
positive_divisor (suc g) n p h = omega arith

-- a factor of a positive number is positive
pub positive_factors : (a b : ℕ) → 0 < a * b → (0 < a) × (0 < b)
positive_factors zero b h = absurd (omega arith)
positive_factors (suc n) zero h = absurd (omega arith)
positive_factors (suc n) (suc m) h = (omega arith, omega arith)
