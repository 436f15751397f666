-- fractions rounded to whole numbers
use Rattle.std.proofs.Common.{◌≡◌, ℕ, ◌+◌, ◌-◌, ◌*◌, ◌<◌, ◌≤◌, ap, arith, ⊎_elim, mul-le-mul_right}
use Rattle.net_core.proofs.Library.{cases_lt}
use Rattle.plan_view.specs.Rounding.{IsCeiling}

-- a number whose multiple is not below, and less than one denominator above
pub ceiling_of : (num den n : ℕ) → num ≤ n * den → n * den < num + den → IsCeiling num den n
ceiling_of num den n reaches near = record {
  reaches = reaches;
  least = λ m le. ⊎_elim
      (λ lt. let more : (m + 1) * den ≤ n * den = mul-le-mul_right den (omega (arith, lt)) in absurd (omega (arith, more, le, near)))
      (λ ge. ge)
      (cases_lt m n);
}

-- a part of a whole in per cent is at most 100
pub at_most_hundred : (num den n : ℕ) → IsCeiling (100 * num) den n → num ≤ den → n ≤ 100
at_most_hundred num den n is le = is.least 100 (omega (arith, le))

-- the difference of two mixed numbers: their whole parts, and their rests over one denominator
module _ (a b c d rest q r p s : ℕ) (one : a ≡ q * b + r) (two : c ≡ p * d + s) (same : a * d ≡ c * b + rest) (r_low : r < b) (s_low : s < d) where
  -- the same with all over one denominator
  wide : q * (b * d) + r * d ≡ p * (b * d) + s * b + rest
  wide =
      let first : a * d ≡ (q * b + r) * d = ap (λ x. x * d) one in
      let second : c * b ≡ (p * d + s) * b = ap (λ x. x * b) two in
      omega (arith, first, second, same)

  rest_low : r * d < b * d
  rest_low = let h : (r + 1) * d ≤ b * d = mul-le-mul_right d (omega (arith, r_low)) in omega (arith, h, s_low)

  other_low : s * b < b * d
  other_low = let h : (s + 1) * b ≤ d * b = mul-le-mul_right b (omega (arith, s_low)) in omega (arith, h, r_low)

  -- the whole part taken off is not greater
  pub whole_le : p ≤ q
  whole_le = ⊎_elim
      (λ lt. let h : (q + 1) * (b * d) ≤ p * (b * d) = mul-le-mul_right (b * d) (omega (arith, lt)) in absurd (omega (arith, h, wide, rest_low)))
      (λ ge. ge)
      (cases_lt q p)

  parts_of : (q - p) * (b * d) + p * (b * d) ≡ q * (b * d)
  parts_of =
      let e : q - p + p ≡ q = omega (arith, whole_le) in
      let h : (q - p + p) * (b * d) ≡ q * (b * d) = ap (λ x. x * (b * d)) e in
      omega (arith, h)

  pub difference_up : s * b < r * d → IsCeiling rest (b * d) (q - p + 1)
  difference_up more = ceiling_of rest (b * d) (q - p + 1)
      (omega (arith, wide, parts_of, rest_low))
      (omega (arith, wide, parts_of, more))

  pub difference_whole : r * d ≤ s * b → IsCeiling rest (b * d) (q - p)
  difference_whole less = ceiling_of rest (b * d) (q - p)
      (omega (arith, wide, parts_of, less))
      (omega (arith, wide, parts_of, other_low))
