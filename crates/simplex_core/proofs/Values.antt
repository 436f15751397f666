-- sums of absolute products
use Rattle.std.proofs.Common.{◌≡◌, ℕ, zero, suc, ◌≤◌, ◌+◌, arith, ap, sym, subst, ⊎_elim}
use Rattle.net_core.{proofs.Library.cases_lt, specs.Terms.sum_below}

-- the sum of fewer numbers is no more
pub fewer : (k n : ℕ) (f : ℕ → ℕ) → k ≤ n → sum_below k f ≤ sum_below n f
fewer k zero f le = let e : k ≡ zero = omega arith in subst (λ x. sum_below x f ≤ 0) (sym e) (omega arith)
fewer k (suc n) f le = ⊎_elim
    (λ lt. omega (arith, fewer k n f (omega arith)))
    (λ ge. let e : k ≡ suc n = omega arith in subst (λ x. sum_below x f ≤ sum_below n f + f n) (sym e) (omega arith))
    (cases_lt k (suc n))

pub next_sum : (k : ℕ) (f : ℕ → ℕ) → sum_below (k + 1) f ≡ sum_below k f + f k
next_sum k f = let e : k + 1 ≡ suc k = omega arith in ap (λ x. sum_below x f) e
