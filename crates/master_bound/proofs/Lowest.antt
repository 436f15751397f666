-- fractions in lowest terms
use Rattle.std.{proofs.Common.{ℕ, zero, suc, ◌^◌, ◌≡◌, ◌*◌, ◌/◌, ◌<◌, ◌≤◌, List, ◌∷◌, All, get_or, length, refl, sym, ap, subst, arith, mul-le-mul_left}, proofs.lemmas.Nat.Gcd.le_of_dvd}
use Rattle.net_core.proofs.Library.{◌∣◌, All-cons, All-get_or, All-head, All-tail, All-from_get_or, mul-div_cancel', dvd-mul_left, positive_divisor}
use Rattle.plan_terms.specs.Terms.{IsModule, Module, IsGreatestDivisor, IsUnitPair}
use Rattle.module_prices.{proofs.UnitCosts.cheapest_sound, proofs.LowestTerms.lowest_small}

-- what a unit costs is no more than what a module may cost
pub unit_cost_low : (modules : List Module) (capacity cost : ℕ) → All IsModule modules → IsUnitPair modules capacity cost → cost < 2 ^ 40
unit_cost_low modules capacity cost each is =
    let m = cheapest_sound modules is.cheapest each is.least in
    omega (arith, lowest_small is.cheapest.cost is.cheapest.capacity cost capacity m.carries is.lowest, m.cost)

-- amounts and a denominator over their greatest common divisor are in lowest terms
module _ (den : ℕ) (amounts : List ℕ) (common : ℕ) (some : 0 < den) (is : IsGreatestDivisor (den ∷ amounts) common) where
  of_den : common ∣ den
  of_den = All-head (λ x. common ∣ x) den amounts is.divides

  pub common_some : 0 < common
  common_some = positive_divisor common den some of_den

  pub whole_den : common * (den / common) ≡ den
  whole_den = mul-div_cancel' common of_den

  pub whole_amount : (j : ℕ) → j < length amounts → common * (get_or amounts j 0 / common) ≡ get_or amounts j 0
  whole_amount j lt = mul-div_cancel' common (All-get_or (λ x. common ∣ x) amounts j 0 lt (All-tail (λ x. common ∣ x) den amounts is.divides))

  pub part_some : 0 < den / common
  part_some = factor common (den / common) (subst (λ x. 0 < x) (sym whole_den) some)
    where
      factor : (a b : ℕ) → 0 < a * b → 0 < b
      factor a zero h = absurd (omega (arith, h))
      factor a (suc b) h = omega arith

  pub in_lowest : (d : ℕ) → d ∣ (den / common) → ((j : ℕ) → j < length amounts → d ∣ (get_or amounts j 0 / common)) → d ≡ 1
  in_lowest d of_part of_nums =
      let times : (x y : ℕ) → common * y ≡ x → d ∣ y → common * d ∣ x = λ x y e h. subst (λ z. common * d ∣ z) e (dvd_times common d y h) in
      let all : All (λ x. common * d ∣ x) (den ∷ amounts) = All-cons (λ x. common * d ∣ x) den amounts (times den (den / common) whole_den of_part)
      (All-from_get_or (λ x. common * d ∣ x) amounts 0 (λ j lt. times (get_or amounts j 0) (get_or amounts j 0 / common) (whole_amount j lt) (of_nums j lt))) in
      one_of d (le_of_dvd common_some (is.greatest (common * d) all)) (positive_divisor d (den / common) part_some of_part)
    where
      dvd_times : (g a b : ℕ) → a ∣ b → g * a ∣ g * b
      dvd_times g a b h = let e : (b / a) * (g * a) ≡ g * b = omega (arith, ap (λ x. g * x) (mul-div_cancel' a h)) in subst (λ x. g * a ∣ x) e (dvd-mul_left (g * a) (b / a))

      one_of : (d : ℕ) → common * d ≤ common → 0 < d → d ≡ 1
      one_of zero le some = absurd (omega (arith, some))
      one_of (suc zero) le some = refl
      one_of (suc (suc d)) le some = absurd (let more : common * 2 ≤ common * suc (suc d) = mul-le-mul_left common (omega arith) in omega (arith, le, more, common_some))
