-- lengths that a state keeps as they are, and their one right side
use Rattle.std.proofs.Common.{◌≡◌, ◌≢◌, ℕ, ◌*◌, List, All, length, get_or, sym, ap, subst, arith, ⊎_elim, ext_get_or}
use Rattle.net_core.proofs.Library.{dvd-mul_right, cases_eq, get_or_default, dvd-zero, dvd_antisymm, ◌∣◌}
use Rattle.plan_terms.specs.Terms.{Graph, Survives, IsGreatestDivisor, AreKept, AreZero, Keeps}

module _ (g : Graph) (lengths : List ℕ) (kept : AreKept g lengths) where
  each_divided : (d : ℕ) → ((e : ℕ) → Survives g e → d ∣ get_or lengths e 0) → All (λ l. d ∣ l) lengths
  each_divided d divides k z lt = subst (λ x. d ∣ x) (get_or_default lengths k 0 z lt)
      (⊎_elim
      (λ none. subst (λ x. d ∣ x) (sym none) (dvd-zero d))
      (λ some. divides k (kept.zero k some))
      (cases_eq (get_or lengths k 0) 0))

  -- some length is positive
  pub kept_not_zero : AreZero g lengths → ⊥
  kept_not_zero none =
      let two : 2 ≡ 1 = kept.lowest 2 (each_divided 2 (λ e survives. subst (λ x. 2 ∣ x) (sym (none e survives)) (dvd-zero 2))) in
      omega (arith, two)

  -- and the state keeps no others of them
  pub keeps_same : (new : List ℕ) → Keeps g lengths new → new ≡ lengths
  keeps_same new keeps = ext_get_or 0 new lengths keeps.count (λ e lt. ⊎_elim
      (λ none. none_left e none)
      (λ some. undivided e (keeps.zero e some))
      (cases_eq (get_or new e 0) 0))
    where
      one : keeps.common ≡ 1
      one = kept.lowest keeps.common (each_divided keeps.common (λ e survives.
          subst (λ x. keeps.common ∣ x) (let times = keeps.divided e survives in omega (arith, times)) (dvd-mul_right keeps.common (get_or new e 0))))

      undivided : (e : ℕ) → Survives g e → get_or new e 0 ≡ get_or lengths e 0
      undivided e survives = omega (arith, keeps.divided e survives, ap (λ c. get_or new e 0 * c) one)

      none_left : (e : ℕ) → get_or new e 0 ≡ 0 → get_or new e 0 ≡ get_or lengths e 0
      none_left e none = ⊎_elim
          (λ zero. omega (arith, none, zero))
          (λ some. undivided e (kept.zero e some))
          (cases_eq (get_or lengths e 0) 0)

-- lengths of surviving links are kept where their greatest common divisor is 1
pub kept_by : (g : Graph) (lengths : List ℕ) (d : ℕ) → length lengths ≡ length g.links → ((e : ℕ) → get_or lengths e 0 ≢ 0 → Survives g e) → IsGreatestDivisor lengths d → d ≡ 1 → AreKept g lengths
kept_by g lengths d count none is one = record {
  count = count;
  zero = none;
  lowest = λ k all. dvd_antisymm (subst (λ x. k ∣ x) one (is.greatest k all)) (subst (λ x. 1 ∣ x) (omega arith) (dvd-mul_right 1 k));
}
