-- divisors of amounts
use Rattle.std.proofs.Common.{◌≡◌, ℕ, ◌+◌, ◌/◌, ◌^◌, ◌<◌, ◌≤◌, ◌++◌, List, [], ◌∷◌, All, Any, length, get_or, take, ⊎_elim, sym, ap, ◌∙◌, subst}
use Rattle.net_core.proofs.Library.{cases_lt, IsGcd, get_or_default, take_more}
use Rattle.plan_terms.{specs.Terms.IsGreatestDivisor, proofs.Lemmas.{divisor_both, divisor_one}}

-- a divisor of one amount more
pub divisor_more : (den : ℕ) (amounts : List ℕ) (n g h : ℕ) → n < length amounts → IsGreatestDivisor (den ∷ take n amounts) g → IsGcd g (get_or amounts n 0) h → IsGreatestDivisor (den ∷ take (n + 1) amounts) h
divisor_more den amounts n g h lt before gcd =
    let x = get_or amounts n 0 in
    let more : den ∷ take (n + 1) amounts ≡ (den ∷ take n amounts) ++ x ∷ [] = ap (λ xs. den ∷ xs) (take_more amounts n 0 lt) in
    subst (λ xs. IsGreatestDivisor xs h) (sym more) (divisor_both (den ∷ take n amounts) (x ∷ []) g x h before (divisor_one x) gcd)

-- an amount over a divisor is wide
pub wide_place : (amounts : List ℕ) (common : ℕ) → Any (λ a. 2 ^ 62 ≤ a / common) amounts → (j : ℕ) × (j < length amounts) × (2 ^ 62 ≤ get_or amounts j 0 / common)
wide_place amounts common any = (any.0, any.2, subst (λ x. 2 ^ 62 ≤ x / common) (sym (get_or_default amounts any.0 0 any.1 any.2 ∙ any.3)) any.4)

-- or none is
pub all_narrow : (amounts : List ℕ) (common : ℕ) → (Any (λ a. 2 ^ 62 ≤ a / common) amounts → ⊥) → All (λ a. a / common < 2 ^ 62) amounts
all_narrow amounts common none k d lt = ⊎_elim
    (λ less. less)
    (λ more. absurd (none (k, get_or amounts k d, lt, get_or_default amounts k (get_or amounts k d) d lt, more)))
    (cases_lt (get_or amounts k d / common) (2 ^ 62))
