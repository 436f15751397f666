-- lengths masked, divided and kept
use Rattle.std.{proofs.Common.{◌≡◌, ◌≢◌, ℕ, zero, suc, ◌+◌, ◌*◌, ◌/◌, ◌≤◌, ◌<◌, ◌⊎◌, List, [], ◌∷◌, All, Any, length, get_or, take, ◌++◌, slice_index, slice_get, Some, ⊎_elim, inl, inr, refl, sym, ap, ◌∙◌, subst, arith, add-one, take-suc}, proofs.Math.ListN.get_or-eq_default, proofs.lemmas.Nat.Gcd.le_of_dvd}
use Rattle.net_core.proofs.Library.{mul-dvd-mul_right, dvd_of_mul-dvd-mul_right, eq-one_of_dvd-one, div-mul_cancel, zero-dvd, cases_eq, cases_lt, dvd-zero, get_or_default_zero, slice_get_within, IsGcd, ◌∣◌}
use Rattle.plan_terms.{specs.Terms.{Link, Graph, Survives, IsGreatestDivisor, AreKept, AreZero, Keeps}, proofs.Lemmas.{divisor_both, divisor_one}}
use Rattle.metric_cut.{specs.Bounded.HaveBound, specs.inner.Masks.{AreDivided, AreMasked}}

-- the first n lengths are masked, and the others are as they were
pub record AreMaskedBelow (g : Graph) (n : ℕ) (lengths masked : List ℕ) : Type 0 where
  pub count : length masked ≡ length lengths
  pub same : (e : ℕ) → Survives g e → slice_index masked e ≡ slice_index lengths e
  pub zero : (e : ℕ) → e < n → slice_index masked e ≢ 0 → Survives g e

-- the first n lengths are divided, and the others are as they were
pub record AreDividedBelow (common n : ℕ) (lengths divided : List ℕ) : Type 0 where
  pub count : length divided ≡ length lengths
  pub each : (e : ℕ) → e < n → e < length lengths → slice_index divided e ≡ slice_index lengths e / common
  pub rest : (e : ℕ) → n ≤ e → slice_index divided e ≡ slice_index lengths e

-- one length more
pub divisor_step : (n : ℕ) (lengths : List ℕ) (d g h : ℕ) → n < length lengths → IsGreatestDivisor (take n lengths) g → IsGcd g (get_or lengths n d) h → IsGreatestDivisor (take (n + 1) lengths) h
divisor_step n lengths d g h lt before gcd =
    let x = get_or lengths n d in
    let more : take (n + 1) lengths ≡ take n lengths ++ x ∷ [] = rw add-one (take-suc lengths n d lt) in
    subst (λ xs. IsGreatestDivisor xs h) (sym more) (divisor_both (take n lengths) (x ∷ []) g x h before (divisor_one x) gcd)

-- a divisor of all lengths divides each, that of a link out of range among them
divides_at : (d : ℕ) (lengths : List ℕ) → All (λ x. d ∣ x) lengths → (e : ℕ) → d ∣ slice_index lengths e
divides_at d lengths all e = ⊎_elim
    (λ lt. all e 0 lt)
    (λ ge. subst (λ x. d ∣ x) (sym (get_or-eq_default lengths 0 (omega (arith, ge)))) (dvd-zero d))
    (cases_lt e (length lengths))

-- what divides each divides all
divides_all : (d : ℕ) (lengths : List ℕ) → ((e : ℕ) → d ∣ slice_index lengths e) → All (λ x. d ∣ x) lengths
divides_all d lengths each i x lt = subst (λ y. d ∣ y) (sym (get_or_default_zero lengths i x lt)) (each i)

-- what divides a length wherever it isn't 0
divides_unless_zero : (d x : ℕ) → (x ≢ 0 → d ∣ x) → d ∣ x
divides_unless_zero d zero some = dvd-zero d
divides_unless_zero d (suc x) some = some (λ e. omega (arith, e))

module _ (g : Graph) (common : ℕ) (lengths masked : List ℕ) (are : AreMasked g lengths masked) (divisor : IsGreatestDivisor masked common) where
  -- the greatest common divisor is 0 exactly where no surviving link has a positive length
  pub zero_lengths : common ≡ 0 → AreZero g lengths
  zero_lengths none = λ e survives.
      let divides : 0 ∣ slice_index masked e = subst (λ c. c ∣ slice_index masked e) none (divides_at common masked divisor.divides e) in
      sym (are.same e survives) ∙ zero-dvd.0 divides

  pub zero_divisor : AreZero g lengths → common ≡ 0
  zero_divisor none =
      let all : All (λ x. (common + 1) ∣ x) masked = divides_all (common + 1) masked
      (λ e. divides_unless_zero (common + 1) (slice_index masked e) (λ some. let survives = are.zero e some in absurd (some (are.same e survives ∙ none e survives)))) in
      ⊎_elim
      (λ (zero : common ≡ 0). zero)
      (λ (some : common ≢ 0). let least : common + 1 ≤ common = le_of_dvd (omega (arith, some)) (divisor.greatest (common + 1) all) in absurd (omega (arith, least)))
      (cases_eq common 0)

  -- the lengths that are kept
  pub keeps_divided : (kept : List ℕ) → 0 < common → length lengths ≡ length g.links → AreDivided common masked kept → Keeps g lengths kept
  keeps_divided kept some count divided = record {
    count = divided.count ∙ are.count;
    common = common;
    positive = some;
    divided = λ e survives.
        let inside : e < length masked = omega (arith, slice_get_within g.links e survives.link survives.at, count, are.count) in
        ap (λ x. x * common) (divided.each e inside) ∙ (div-mul_cancel common (divides_at common masked divisor.divides e) ∙ are.same e survives);
    greatest = λ d each. divisor.greatest d (divides_all d masked (λ e. divides_unless_zero d (slice_index masked e)
        (λ positive. let survives = are.zero e positive in subst (λ x. d ∣ x) (sym (are.same e survives)) (each e survives))));
    zero = λ e positive. ⊎_elim
        (λ inside. are.zero e (λ none. positive (divided.each e inside ∙ (ap (λ x. x / common) none ∙ zero_over common some))))
        (λ outside. absurd (positive (get_or-eq_default kept 0 (omega (arith, outside, divided.count)))))
        (cases_lt e (length masked));
  }
    where
      zero_over : (c : ℕ) → 0 < c → 0 / c ≡ 0
      zero_over zero positive = absurd (omega arith)
      zero_over (suc c) positive = omega arith

-- what a state keeps of lengths is kept in it
pub keeps_kept : (g : Graph) (lengths kept : List ℕ) → length lengths ≡ length g.links → Keeps g lengths kept → AreKept g kept
keeps_kept g lengths kept count keeps = record {
  count = keeps.count ∙ count;
  zero = keeps.zero;
  lowest = λ d all.
      let each : (e : ℕ) → Survives g e → (d * keeps.common) ∣ slice_index lengths e = λ e survives.
      subst (λ x. (d * keeps.common) ∣ x) (keeps.divided e survives) (mul-dvd-mul_right d (divides_at d kept all e) keeps.common) in
      let divides : (d * keeps.common) ∣ (1 * keeps.common) = subst (λ x. (d * keeps.common) ∣ x) (omega arith) (keeps.greatest (d * keeps.common) each) in
      eq-one_of_dvd-one (dvd_of_mul-dvd-mul_right d keeps.positive divides);
}

-- some number is positive, or all are 0
positive_or_zero : (xs : List ℕ) → Any (λ x. 0 < x) xs ⊎ ((e : ℕ) → slice_index xs e ≡ 0)
positive_or_zero [] = inr (λ e. refl)
positive_or_zero (zero ∷ xs) = ⊎_elim
    (λ some. inl (suc some.0, some.1, omega (arith, some.2), some.3, some.4))
    (λ none. inr (λ e. elim e as (λ i. slice_index (0 ∷ xs) i ≡ 0) [ zero ↦ refl | suc k ↦ none k ]))
    (positive_or_zero xs)
positive_or_zero (suc x ∷ xs) = inl (0, suc x, omega arith, refl, omega arith)

-- kept lengths have a bound of their own
pub kept_have_bound : (g : Graph) (lengths : List ℕ) → AreKept g lengths → HaveBound g.links lengths
kept_have_bound g lengths kept = record {
  count = kept.count;
  positive = ⊎_elim
      (λ some. some)
      (λ none. absurd (let two : 2 ≡ 1 = kept.lowest 2 (divides_all 2 lengths (λ e. subst (λ x. 2 ∣ x) (sym (none e)) (dvd-zero 2))) in omega (arith, two)))
      (positive_or_zero lengths);
  served = λ e l at some.
      let survives = kept.zero e some in
      subst (λ (x : Link). x.modules ≢ []) (same_link e l survives.link at survives.at) survives.has_module;
}
  where
    same_link : (e : ℕ) (a b : Link) → slice_get g.links e ≡ Some a → slice_get g.links e ≡ Some b → b ≡ a
    same_link e a b first second = cc
