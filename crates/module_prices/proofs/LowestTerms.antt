-- fractions in lowest terms, as rows of one number
use Rattle.std.proofs.Common.{ℕ, zero, suc, pos, ◌≡◌, ◌*◌, ◌<◌, ◌≤◌, unsigned_abs, sym, ap, ◌∙◌, arith, mul-le-mul_left}
use Rattle.net_core.proofs.Library.{ints, unsigned_abs-mul}
use Rattle.checked_fraction.{specs.Terms.IsReduced, proofs.Once.times_reduced}
use Rattle.plan_terms.{specs.Terms.IsLowest, proofs.Lemmas.lowest_positive}

pub as_row : (a b c d : ℕ) → 0 < b → IsLowest a b c d → IsReduced 1 (λ k. pos a) (pos b) (λ k. pos c) (pos d)
as_row a b c d some low = record {
  positive = let p : 0 < d = lowest_positive a b c d some low in omega (arith, ints, p);
  same = λ k lt. let e : c * b ≡ a * d = sym low.same in omega (arith, ints, e);
  lowest = λ k den nums. low.lowest k (nums 0 (omega arith)) den;
}

-- whose numerator is no greater than that of the fraction
pub lowest_small : (a b c d : ℕ) → 0 < b → IsLowest a b c d → c ≤ a
lowest_small a b c d some low =
    let times = times_reduced 1 (λ k. pos a) (pos b) (λ k. pos c) (pos d) (omega (arith, ints, some)) (as_row a b c d some low) in
    let g = times.0 in
    let num : a ≡ g * c = ap unsigned_abs (times.2 0 (omega arith)) ∙ unsigned_abs-mul (pos g) (pos c) in
    let den : b ≡ g * d = ap unsigned_abs times.1 ∙ unsigned_abs-mul (pos g) (pos d) in
    small g num den
  where
    small : (g : ℕ) → a ≡ g * c → b ≡ g * d → c ≤ a
    small zero num den = absurd (omega (arith, some, den))
    small (suc n) num den = omega (arith, num, mul-le-mul_left c (let one : 1 ≤ suc n = omega arith in one))
