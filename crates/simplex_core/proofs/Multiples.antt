-- least common multiples
use Rattle.std.proofs.Common.{◌≡◌, ℕ, zero, suc, ◌+◌, ◌*◌, ◌/◌, ◌<◌, sym, ap, subst, ◌∙◌, arith, ⊎_elim, mul-pos}
use Rattle.net_core.proofs.Library.{◌∣◌, IsGcd, cases_lt, dvd_trans, one-dvd, dvd-mul_left, dvd-mul_right, dvd_of_mul-dvd-mul_left, mul-dvd-mul_left, mul-dvd-mul_right, mul-div_cancel', positive_divisor}
use Rattle.checked_fraction.proofs.Once.{divides_rest, shared_divisor}
use Rattle.simplex_core.{specs.Multiples.{IsLeastMultiple, HaveNoMultiple}, specs.inner.Commons.{IsDenominator, HaveNoDenominator}}

swapped : (a b : ℕ) → a * b ≡ b * a
swapped a b = omega arith

pub quotient_some : (g a : ℕ) → 0 < a → g ∣ a → 0 < a / g
quotient_some g a p h = some (a / g) (mul-div_cancel' g h)
  where
    some : (x : ℕ) → g * x ≡ a → 0 < x
    some zero e = absurd (omega (arith, e))
    some (suc x) e = omega arith

pub multiple_some : (a b g : ℕ) → 0 < a → 0 < b → IsGcd a b g → 0 < a / g * b
multiple_some a b g pa pb gcd = mul-pos (quotient_some g a pa gcd.0) pb

pub multiple_first : (a b g : ℕ) → IsGcd a b g → a ∣ a / g * b
multiple_first a b g gcd =
    let ea : g * (a / g) ≡ a = mul-div_cancel' g gcd.0 in
    let eb : g * (b / g) ≡ b = mul-div_cancel' g gcd.1 in
    let same : a * (b / g) ≡ a / g * b = ap (λ x. x * (b / g)) (sym ea) ∙ (moved g (a / g) (b / g) ∙ ap (λ x. a / g * x) eb) in
    subst (λ x. a ∣ x) same (dvd-mul_right a (b / g))
  where
    moved : (g x y : ℕ) → (g * x) * y ≡ x * (g * y)
    moved g x y = omega arith

pub multiple_least : (a b g c : ℕ) → 0 < a → IsGcd a b g → a ∣ c → b ∣ c → a / g * b ∣ c
multiple_least a b g c pa gcd ac bc =
    let pg = positive_divisor g a pa gcd.0 in
    let s = shared_divisor (λ x. a * b ∣ c * x) (divides_rest (a * b) c) (suc b) a b (omega arith)
    (subst (λ x. x ∣ c * a) (swapped b a) (mul-dvd-mul_right b bc a)) (mul-dvd-mul_right a ac b) in
    let all : a * b ∣ c * g = dvd_trans (a * b) s.3 (mul-dvd-mul_left s.0 c (gcd.2 s.0 s.1 s.2)) in
    let ea : g * (a / g) ≡ a = mul-div_cancel' g gcd.0 in
    let left : a * b ≡ g * (a / g * b) = ap (λ x. x * b) (sym ea) ∙ grouped g (a / g) b in
    dvd_of_mul-dvd-mul_left {k = g} (a / g * b) {n = c} pg (subst (λ x. x ∣ g * c) left (subst (λ x. a * b ∣ x) (swapped c g) all))
  where
    grouped : (g x y : ℕ) → (g * x) * y ≡ g * (x * y)
    grouped g x y = omega arith

module _ (dens : ℕ → ℕ) where
  -- one more
  pub denominator_next : (n all next : ℕ) → IsDenominator dens n all → IsLeastMultiple all (dens n) next → IsDenominator dens (n + 1) next
  denominator_next n all next d m = record {
    some = m.some;
    narrow = m.narrow;
    all = λ i l. ⊎_elim
        (λ less. dvd_trans (dens i) (d.all i less) m.first)
        (λ ge. let e : n ≡ i = omega arith in subst (λ k. dens k ∣ next) e m.second)
        (cases_lt i n);
    least = λ c all. m.least c (d.least c (λ i l. all i (omega arith))) (all n (omega arith));
  }

  pub denominator_none : (n total all : ℕ) → n < total → IsDenominator dens n all → HaveNoMultiple all (dens n) → HaveNoDenominator dens total
  denominator_none n total all lt d none = (
    none.0,
    none.1,
    λ c every. none.2 c (d.least c (λ i l. every i (omega (arith, l, lt)))) (every n lt),
  )

  pub denominator_first : IsDenominator dens 0 1
  denominator_first = record {
    some = omega arith;
    narrow = omega arith;
    all = λ i l. absurd (omega arith);
    least = λ c all. one-dvd c;
  }

-- a fraction over a multiple of its denominator
pub numerator_times : (num den whole size value : ℕ) → num * size ≡ value * den → den ∣ whole → (num * (whole / den)) * size ≡ whole * value
numerator_times num den whole size value same divides =
    first num (whole / den) size ∙ (ap (λ t. (whole / den) * t) same ∙ (second (whole / den) value den ∙ ap (λ t. t * value) (mul-div_cancel' den divides)))
  where
    first : (n w s : ℕ) → (n * w) * s ≡ w * (n * s)
    first n w s = omega arith

    second : (w v d : ℕ) → w * (v * d) ≡ (d * w) * v
    second w v d = omega arith

-- a fraction without its common divisor
pub fraction_same : (value den g : ℕ) → g ∣ value → g ∣ den → (value / g) * den ≡ value * (den / g)
fraction_same value den g gv gd =
    ap (λ t. (value / g) * t) (sym (mul-div_cancel' g gd)) ∙ (crossed (value / g) g (den / g) ∙ ap (λ t. t * (den / g)) (mul-div_cancel' g gv))
  where
    crossed : (x g y : ℕ) → x * (g * y) ≡ (g * x) * y
    crossed x g y = omega arith

pub quotient_divides : (den g : ℕ) → g ∣ den → den / g ∣ den
quotient_divides den g h = subst (λ x. den / g ∣ x) (mul-div_cancel' g h) (dvd-mul_left (den / g) g)
