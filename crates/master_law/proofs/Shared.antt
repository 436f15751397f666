-- a number that divides the same number of times all numbers without a common divisor divides that number
use Rattle.std.proofs.Common.{◌≡◌, ℕ, zero, suc, ◌*◌, ◌%◌, ◌<◌, ap, subst, ◌∙◌, arith, ⊎_elim}
use Rattle.net_core.proofs.Library.{◌∣◌, cases_lt, dvd_refl, dvd-zero, dvd_trans, dvd-mul_left}
use Rattle.checked_fraction.proofs.Once.{divides_back, divides_rest}

module _ (part c : ℕ) where
  -- of two numbers, by Euclid's steps
  of_two : (fuel a b : ℕ) → b < fuel → part ∣ c * a → part ∣ c * b → (g : ℕ) × (g ∣ a) × (g ∣ b) × (part ∣ c * g)
  of_two zero a b lt pa pb = absurd (omega arith)
  of_two (suc fuel) a zero lt pa pb = (a, dvd_refl a, dvd-zero a, pa)
  of_two (suc fuel) a (suc b) lt pa pb =
      let s = of_two fuel (suc b) (a % suc b) (omega arith) pb (divides_rest part c a (suc b) pa pb) in
      (s.0, divides_back s.0 a (suc b) s.1 s.2, s.1, s.3)

  of_all : (m : ℕ) (few : ℕ → ℕ) → ((j : ℕ) → j < m → part ∣ c * few j) → (g : ℕ) × (g ∣ part) × ((j : ℕ) → j < m → g ∣ few j) × (part ∣ c * g)
  of_all zero few each = (part, dvd_refl part, (λ j l. absurd (omega (arith, l))), dvd-mul_left part c)
  of_all (suc m) few each =
      let before = of_all m few (λ j l. each j (omega (arith, l))) in
      let s = of_two (suc (few m)) before.0 (few m) (omega arith) before.3 (each m (omega arith)) in (
        s.0,
        dvd_trans s.0 s.1 before.1,
        (λ j l. ⊎_elim
            (λ less. dvd_trans s.0 s.1 (before.2 j less))
            (λ more. let e : m ≡ j = omega (arith, more, l) in subst (λ i. s.0 ∣ few i) e s.2)
            (cases_lt j m)),
        s.3,
      )

  pub divides_common : (m : ℕ) (few : ℕ → ℕ) → ((j : ℕ) → j < m → part ∣ c * few j) → ((d : ℕ) → d ∣ part → ((j : ℕ) → j < m → d ∣ few j) → d ≡ 1) → part ∣ c
  divides_common m few each lowest =
      let all = of_all m few each in
      let one : all.0 ≡ 1 = lowest all.0 all.1 all.2 in
      subst (λ x. part ∣ x) (ap (λ x. c * x) one ∙ omega arith) all.3
