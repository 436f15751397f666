-- rows in lowest terms
use Rattle.std.proofs.Common.{ℕ, ℤ, List, zero, suc, pos, ◌≡◌, ◌*◌, ◌/◌, ◌<◌, ◌*ℤ◌, ◌-ℤ◌, unsigned_abs, sym, ap, subst, ◌∙◌, arith, ◌<ℤ◌}
use Rattle.net_core.proofs.Library.{◌∣◌, ints, unsigned_abs-mul, mul-dvd-mul_left, dvd_of_mul-dvd-mul_left, eq-one_of_dvd-one, mul-div_cancel', positive_divisor}
use Rattle.checked_fraction.{specs.Rows.{num, IsInLowestTerms, IsReduced}, specs.Mixed.combined, specs.inner.Passes.{IsRowGcd, IsFoundDivisor, IsTimes, raw, over}, specs.declared.mix.Mix.Mix, specs.declared.pivot.Found.Found, proofs.Products.{regroup, moved, mixed_times, nothing_taken}, proofs.Quotients.exact_quotient}

-- each number divided by the greatest common divisor
pub reduces : (f : ℕ → ℤ) (n whole g : ℕ) → 0 < whole → IsRowGcd f n whole g → IsReduced n f (pos whole) (over f g) (pos (whole / g))
reduces f n whole g pw row =
    let pg : 0 < g = positive_divisor g whole pw row.of_whole in
    let back : g * (whole / g) ≡ whole = mul-div_cancel' g row.of_whole in
    let each : (k : ℕ) → k < n → pos g *ℤ over f g k ≡ f k = λ k l. exact_quotient g (f k) (row.of_numbers k l) in
    record {
      positive = above (whole / g) back;
      same = λ k l. ap (λ t. over f g k *ℤ t) (whole_again back) ∙ (moved (pos g) (over f g k) (pos (whole / g)) ∙ ap (λ t. t *ℤ pos (whole / g)) (each k l));
      lowest = λ d of_den of_nums. eq-one_of_dvd-one (dvd_of_mul-dvd-mul_left {k = g} d {n = 1} pg (subst (λ x. g * d ∣ x) (sym (times_one g))
          (row.greatest (g * d)
          (subst (λ x. g * d ∣ x) back (mul-dvd-mul_left d g of_den))
          (λ k l. subst (λ x. g * d ∣ x) (size k (each k l)) (mul-dvd-mul_left d g (of_nums k l))))));
    }
  where
    above : (x : ℕ) → g * x ≡ whole → pos 0 <ℤ pos x
    above zero e = absurd (omega arith)
    above (suc x) e = omega (arith, ints)

    whole_again : g * (whole / g) ≡ whole → pos whole ≡ pos g *ℤ pos (whole / g)
    whole_again e = omega (arith, ints)

    times_one : (m : ℕ) → m * 1 ≡ m
    times_one m = omega arith

    size : (k : ℕ) → pos g *ℤ over f g k ≡ f k → g * unsigned_abs (over f g k) ≡ unsigned_abs (f k)
    size k e = sym (unsigned_abs-mul (pos g) (over f g k)) ∙ ap unsigned_abs e

-- a row that reduces fractions reduces them also where numerators and denominator are d times as large
pub scaled : (n d : ℕ) (raw low : ℕ → ℤ) (whole below : ℤ) (nums : ℕ → ℤ) (den : ℤ) → ((k : ℕ) → k < n → raw k ≡ pos d *ℤ low k) → whole ≡ pos d *ℤ below
    → IsReduced n low below nums den → IsReduced n raw whole nums den
scaled n d raw low whole below nums den each all r = record {
  positive = r.positive;
  same = λ k l.
      ap (λ t. nums k *ℤ t) all ∙ (moved (pos d) (nums k) below ∙ (regroup (pos d) (nums k) below
      ∙ (ap (λ t. pos d *ℤ t) (r.same k l) ∙ (sym (regroup (pos d) (low k) den) ∙ ap (λ t. t *ℤ den) (sym (each k l))))));
  lowest = r.lowest;
}

-- numbers that agree
pub agreed : (n : ℕ) (raw : ℕ → ℤ) (whole : ℤ) (nums others : ℕ → ℤ) (den : ℤ) → ((k : ℕ) → k < n → others k ≡ nums k)
    → IsReduced n raw whole nums den → IsReduced n raw whole others den
agreed n raw whole nums others den each r = record {
  positive = r.positive;
  same = λ k l. ap (λ t. t *ℤ whole) (each k l) ∙ r.same k l;
  lowest = λ d of_den of_nums. r.lowest d of_den (λ k l. subst (λ x. d ∣ unsigned_abs x) (each k l) (of_nums k l));
}

-- numbers written as those divided by the greatest common divisor
pub made : (f : ℕ → ℤ) (n whole g : ℕ) (nums : ℕ → ℤ) (w : ℤ) → 0 < whole → IsRowGcd f n whole g → ((k : ℕ) → k < n → nums k ≡ over f g k) → pos whole ≡ w
    → IsReduced n f w nums (pos (whole / g))
made f n whole g nums w pw row each e = subst (λ x. IsReduced n f x nums (pos (whole / g))) e
    (agreed n f (pos whole) (over f g) nums (pos (whole / g)) each (reduces f n whole g pw row))

-- numbers written as those divided by the common divisor that was found
pub settled : (f : ℕ → ℤ) (n whole : ℕ) (found : Found) (nums : ℕ → ℤ) (w : ℤ) → 0 < whole → IsFoundDivisor f n whole found → ((k : ℕ) → k < n → nums k ≡ over f found.common.value k) → pos whole ≡ w
    → IsReduced n f w nums found.den
settled f n whole found nums w pw found_of each e = subst (λ x. IsReduced n f w nums x) (sym found_of.den) (made f n whole found.common.value nums w pw found_of.common each e)

-- a row from which nothing is taken stays as it is
pub unmixed : (n : ℕ) (nums pivot : ℕ → ℤ) (p q den : ℤ) → p ≡ pos 0 → pos 0 <ℤ den → IsInLowestTerms n nums den → IsReduced n (combined nums p pivot q) (den *ℤ q) nums den
unmixed n nums pivot p q den none positive lowest = record {
  positive = positive;
  same = λ k l. subst (λ t. nums k *ℤ (den *ℤ q) ≡ combined nums t pivot q k *ℤ den) (sym none) (nothing_taken (nums k) q (pivot k) den);
  lowest = lowest;
}

-- factors that are one number of times others make the fractions that those make
pub times_same : (n : ℕ) (row pivot : List ℤ) (mix low : Mix) (whole : ℤ) (nums : ℕ → ℤ) (den : ℤ) → IsTimes mix low
    → IsReduced n (raw row pivot low) (whole *ℤ low.q) nums den → IsReduced n (raw row pivot mix) (whole *ℤ mix.q) nums den
times_same n row pivot mix low whole nums den times r =
    let d = times.0 in
    scaled n d (raw row pivot mix) (raw row pivot low) (whole *ℤ mix.q) (whole *ℤ low.q) nums den
    (λ k l. ap (λ t. (num row k *ℤ t) -ℤ (mix.p *ℤ num pivot k)) times.3 ∙ (ap (λ t. (num row k *ℤ (pos d *ℤ low.q)) -ℤ (t *ℤ num pivot k)) times.2
    ∙ mixed_times (pos d) (num row k) low.q low.p (num pivot k)))
    (ap (λ t. whole *ℤ t) times.3 ∙ (moved (pos d) whole low.q ∙ regroup (pos d) whole low.q))
    r
