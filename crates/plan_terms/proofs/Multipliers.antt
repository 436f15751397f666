-- the greatest valid multiplier of lengths, from the least ratio of a cost and a size
use Rattle.std.proofs.Common.{◌≡◌, ℕ, zero, suc, ◌*◌, ◌/◌, ◌≤◌, ◌<◌, List, slice_index, get_or, sym, ap, subst, ◌∙◌, arith, mul-le-mul_left}
use Rattle.net_core.{proofs.Library.{le_of_mul-le-mul_left, mul-dvd-mul_right, dvd_of_mul-dvd-mul_right, eq-one_of_dvd-one, div-mul_cancel, ◌∣◌, IsGcd, positive_factors}, specs.declared.network.Module.Module, specs.declared.network.Link.Link}
use Rattle.plan_terms.{specs.Bounds.IsLowest, specs.OwnBounds.{IsValid, IsMultiplier}, specs.inner.Ratios.IsLeastRatio}

-- What is no less than a ratio c / s is no less than a lesser one. A size of 0 makes a ratio that is greater than all.
pub smaller_ratio : (c s less less_size other other_size : ℕ) → less * s < c * less_size → c * other_size ≤ other * s → less * other_size ≤ other * less_size
smaller_ratio zero s less less_size other other_size lower before = absurd (omega arith)
smaller_ratio (suc n) s less less_size other other_size lower before =
    let c = suc n in
    let one : less * (c * other_size) ≤ less * (other * s) = mul-le-mul_left less before in
    let two : other * (less * s) ≤ other * (c * less_size) = mul-le-mul_left other (omega arith) in
    let all : c * (less * other_size) ≤ c * (other * less_size) = omega arith in
    le_of_mul-le-mul_left all (omega arith)

-- over their greatest common divisor two numbers have no common divisor above 1
pub lowest_terms : (a b g num den : ℕ) → 0 < b → IsGcd a b g → a ≡ num * g → b ≡ den * g → IsLowest a b num den
lowest_terms a b g num den some gcd first second =
    let positive = positive_factors den g (omega arith) in
    record {
      same = omega (arith, ap (λ i. i * den) first, ap (λ i. num * i) second);
      lowest = λ k in_num in_den.
          let one : k * g ∣ a = subst (λ i. k * g ∣ i) (sym first) (mul-dvd-mul_right k in_num g) in
          let two : k * g ∣ b = subst (λ i. k * g ∣ i) (sym second) (mul-dvd-mul_right k in_den g) in
          let all : k * g ∣ 1 * g = subst (λ i. k * g ∣ i) (omega arith) (gcd.2 (k * g) one two) in
          eq-one_of_dvd-one (dvd_of_mul-dvd-mul_right k positive.1 all);
    }

module _ (links : List Link) (lengths : List ℕ) (cost size : ℕ) (ratio : IsLeastRatio links lengths cost size) (g num den : ℕ) (first : cost ≡ num * g) (second : size ≡ den * g) where
  denominator_positive : (0 < den) × (0 < g)
  denominator_positive = let p = ratio.positive in positive_factors den g (omega (arith, p, second))

  -- the least ratio, reduced, is a valid multiplier
  pub ratio_valid : IsValid links lengths num den
  ratio_valid = record {
    positive = omega (arith, denominator_positive.0);
    priced = λ e l at k d lt.
        let m = get_or l.modules k d in
        let least : cost * (m.capacity * slice_index lengths e) ≤ m.cost * size = ratio.least e l at k d lt in
        let all : g * (num * slice_index lengths e * m.capacity) ≤ g * (den * m.cost) = omega (arith, least, ap (λ i. i * (m.capacity * slice_index lengths e)) first, ap (λ i. m.cost * i) second) in
        le_of_mul-le-mul_left all denominator_positive.1;
  }

  -- no valid multiplier is greater
  pub ratio_greatest : (a b : ℕ) → IsValid links lengths a b → a * den ≤ num * b
  ratio_greatest a b valid =
      let m = ratio.reached.1 in
      let priced : a * slice_index lengths ratio.number * m.capacity ≤ b * m.cost = subst (λ (x : Module). a * slice_index lengths ratio.number * x.capacity ≤ b * x.cost) ratio.reached.3 (valid.priced ratio.number ratio.link ratio.at ratio.reached.0 m ratio.reached.2) in
      let all : g * (a * den) ≤ g * (num * b) = omega (arith, priced, ap (λ i. a * i) (ratio.reached.4.1 ∙ second), ap (λ i. b * i) (ratio.reached.4.0 ∙ first)) in
      le_of_mul-le-mul_left all denominator_positive.1

  -- the least ratio in lowest terms is the greatest valid multiplier
  pub ratio_multiplier : IsGcd cost size g → IsMultiplier links lengths num den
  ratio_multiplier gcd =
      let low = lowest_terms cost size g num den ratio.positive gcd first second in
      record { valid = ratio_valid; greatest = ratio_greatest; lowest = low.lowest }

-- the least ratio over its greatest common divisor is the greatest valid multiplier
pub ratio_quotient : (links : List Link) (lengths : List ℕ) (cost size g : ℕ) → IsLeastRatio links lengths cost size → IsGcd cost size g → (0 < g) × IsMultiplier links lengths (cost / g) (size / g)
ratio_quotient links lengths cost size g ratio gcd =
    let first = sym (div-mul_cancel g gcd.0) in
    let second = sym (div-mul_cancel g gcd.1) in
    let positive = positive_factors (size / g) g (omega (arith, second, ratio.positive)) in
    (positive.1, ratio_multiplier links lengths cost size ratio g (cost / g) (size / g) first second gcd)
