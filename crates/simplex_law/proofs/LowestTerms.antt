-- each row has lowest terms
use Rattle.std.{proofs.Common.{◌≡◌, ℕ, zero, suc, ◌<◌, ◌+◌, ◌*◌, ◌/◌, ◌%◌, refl, sym, ap, ◌∙◌, arith, subst, unsigned_abs, ℤ, pos, negsuc, ◌-ℤ◌, ◌*ℤ◌, ◌<ℤ◌}, proofs.Math.Nat.dvd-one}
use Rattle.net_core.proofs.Library.{◌∣◌, IsGcd, ints, unsigned_abs-mul, IsGcd-from_zero, IsGcd-from_mod, mul-div_cancel', mul-dvd-mul_left, dvd_of_mul-dvd-mul_left, positive_divisor}
use Rattle.checked_fraction.{specs.Terms.{IsInLowestTerms, IsRowGcd}, proofs.Divisors.{row_gcd_none, row_gcd_more}}
use Rattle.simplex_law.{proofs.Rows.IsMultiple, proofs.Arithmetic.{positive_cancel, minus_left}}

-- two numbers have a greatest common divisor, and so have all numbers of a row
some_gcd : (fuel a b : ℕ) → b < fuel → (g : ℕ) × IsGcd a b g
some_gcd zero a b l = absurd (omega (arith, l))
some_gcd (suc fuel) a zero l = (a, IsGcd-from_zero a 0 refl)
some_gcd (suc fuel) a (suc b) l = let s = some_gcd fuel (suc b) (a % suc b) (omega (arith, l)) in (s.0, IsGcd-from_mod a (suc b) s.0 s.1)

row_gcd : (f : ℕ → ℤ) (n whole : ℕ) → (g : ℕ) × IsRowGcd f n whole g
row_gcd f zero whole = (whole, row_gcd_none f whole)
row_gcd f (suc n) whole =
    let before = row_gcd f n whole in
    let both = some_gcd (suc (unsigned_abs (f n))) before.0 (unsigned_abs (f n)) (omega arith) in
    (both.0, subst (λ k. IsRowGcd f k whole both.0) (one_more n) (row_gcd_more f n whole before.0 (unsigned_abs (f n)) both.0 before.1 refl both.1))
  where
    one_more : (n : ℕ) → n + 1 ≡ suc n
    one_more n = omega arith

-- a number over one that divides it
quotient : ℕ → ℤ → ℤ
quotient g (pos n) = pos (n / g)
quotient g (negsuc n) = pos 0 -ℤ pos (suc n / g)

quotient_is : (g : ℕ) (x : ℤ) → g ∣ unsigned_abs x → x ≡ pos g *ℤ quotient g x
unfolding quotient
quotient_is g (pos n) h = let e : g * (n / g) ≡ n = mul-div_cancel' g h in omega (arith, ints, e)
quotient_is g (negsuc n) h = let e : g * (suc n / g) ≡ suc n = mul-div_cancel' g h in omega (arith, ints, e, minus_left (pos 0) (pos (suc n / g)) (pos g))

-- a row over a positive denominator is a multiple of one in lowest terms
pub some_lowest : (n : ℕ) (raw : ℕ → ℤ) (whole : ℤ) → pos 0 <ℤ whole
    → (nums : ℕ → ℤ) × (den : ℤ) × (g : ℕ) × IsMultiple n raw whole nums den (pos g) × (pos 0 <ℤ den) × IsInLowestTerms n nums den × (pos g *ℤ den ≡ whole)
some_lowest n raw whole pw =
    let found = row_gcd raw n (unsigned_abs whole) in
    let g = found.0 in
    let of = found.1 in
    let pg : 0 < g = positive_divisor g (unsigned_abs whole) (size whole pw) of.of_whole in
    let den = quotient g whole in
    let e = quotient_is g whole of.of_whole in
    let pd = positive_cancel (pos g) den (omega (arith, ints, pg)) (subst (λ x. pos 0 <ℤ x) e pw) in (
      (λ k. quotient g (raw k)),
      den,
      g,
      record { positive = omega (arith, ints, pg); of_den = e; of_nums = λ k l. quotient_is g (raw k) (of.of_numbers k l) },
      pd,
      (λ d of_den of_nums.
          let all : g * d ∣ g = of.greatest (g * d)
          (subst (λ x. g * d ∣ x) (parts g whole den e) (mul-dvd-mul_left d g of_den))
          (λ k l. subst (λ x. g * d ∣ x) (parts g (raw k) (quotient g (raw k)) (quotient_is g (raw k) (of.of_numbers k l))) (mul-dvd-mul_left d g (of_nums k l))) in
          dvd-one.0 (dvd_of_mul-dvd-mul_left {k = g} d {n = 1} pg (subst (λ x. g * d ∣ x) (times_one g) all))),
      sym e,
    )
  where
    size : (x : ℤ) → pos 0 <ℤ x → 0 < unsigned_abs x
    size x h = omega (arith, ints, h)

    times_one : (g : ℕ) → g ≡ g * 1
    times_one g = omega arith

    parts : (g : ℕ) (x y : ℤ) → x ≡ pos g *ℤ y → g * unsigned_abs y ≡ unsigned_abs x
    parts g x y e = sym (ap unsigned_abs e ∙ unsigned_abs-mul (pos g) y)
