-- raw values and bounds
use Rattle.std.{proofs.Common.{◌≡◌, ℕ, ◌*◌, ◌==◌, IsTrue, Ordering, nat_cmp, refl, sym, subst, ◌∙◌, arith, ⊎_elim, Less, Equal, Greater}, specs.Ordering.ordering_index}
use Rattle.net_core.proofs.Library.{eq-one_of_dvd-one, cases_lt, false≢true, nat_cmp_is, ◌∣◌, IsGcd}
use Rattle.plan_terms.specs.Terms.{IsLowest}

-- two numbers that compare as equal
pub index_equal : (o : Ordering) (x y : ℕ) → o ≡ nat_cmp x y → IsTrue (ordering_index o == 1) → x ≡ y
index_equal o x y is t = ⊎_elim
    (λ lt. absurd (false≢true (subst (λ (q : Ordering). IsTrue (ordering_index q == 1)) (is ∙ sym (nat_cmp_is x y Less lt)) t)))
    (λ ge. ⊎_elim
    (λ lt. absurd (false≢true (subst (λ (q : Ordering). IsTrue (ordering_index q == 1)) (is ∙ sym (nat_cmp_is x y Greater lt)) t)))
    (λ le. omega (arith, ge, le))
    (cases_lt y x))
    (cases_lt x y)

pub equal_index : (o : Ordering) (x y : ℕ) → o ≡ nat_cmp x y → x ≡ y → IsTrue (ordering_index o == 1)
equal_index o x y is same = subst (λ (q : Ordering). IsTrue (ordering_index q == 1)) (nat_cmp_is x y Equal same ∙ sym is) refl

-- a fraction without common divisor that compares as equal is the other in lowest terms
pub lowest_by : (raw whole num den g : ℕ) (o : Ordering) → IsGcd num den g → g ≡ 1 → o ≡ nat_cmp (raw * den) (num * whole) → IsTrue (ordering_index o == 1) → IsLowest raw whole num den
lowest_by raw whole num den g o gcd one is t = record {
  same = index_equal o (raw * den) (num * whole) is t;
  lowest = λ k first second. eq-one_of_dvd-one (subst (λ x. k ∣ x) one (gcd.2 k first second));
}

pub lowest_compares : (raw whole num den : ℕ) (o : Ordering) → o ≡ nat_cmp (raw * den) (num * whole) → IsLowest raw whole num den → IsTrue (ordering_index o == 1)
lowest_compares raw whole num den o is low = equal_index o (raw * den) (num * whole) is low.same
