-- bounds: rounded up to a multiple of the greatest common divisor of what links charge
use Rattle.std.{proofs.Common.{◌≡◌, ℕ, zero, suc, ◌*◌, ◌/◌, ◌≤◌, ◌<◌, List, [], ◌∷◌, ◌++◌, refl, sym, ap, subst, ◌∙◌, ◌≢◌, ◌+◌, ◌⊎◌, inl, inr, ⊎_elim, arith, mul-le-mul_left, lt_of_mul-lt-mul_right}, proofs.lemmas.Nat.Gcd.le_of_dvd}
use Rattle.net_core.{proofs.Library.{le_of_mul-le-mul_left, dvd-mul_right, mul-div_cancel', All-append, All-from_recursion, recursion_from_All, dvd_refl, dvd-zero, dvd_trans, dvd_antisymm, cases_eq, ◌∣◌, IsGcd, AllByRecursion}, specs.declared.network.Link.Link}
use Rattle.plan_terms.{specs.Bounds.{IsLowest, charges, IsGreatestDivisor, IsBound}, proofs.Duality.divides_parts}

-- where nothing is charged the bound is 0
pub bound_free : (links : List Link) (num den : ℕ) → IsGreatestDivisor (charges links) 0 → IsBound links num den 0
bound_free links num den is = record {
  divisor = 0;
  is_divisor = is;
  multiple = dvd-zero 0;
  reaches = λ some. absurd (some refl);
  least = λ other divides enough. omega arith;
}

-- the multiples of a positive divisor that reach num / den are the counts of it that reach num / (den · divisor)
pub bound_rounded : (links : List Link) (num den g count : ℕ) → 0 < g → IsGreatestDivisor (charges links) g → num ≤ den * g * count → ((c : ℕ) → num ≤ den * g * c → count ≤ c) → IsBound links num den (g * count)
bound_rounded links num den g count some is enough least = record {
  divisor = g;
  is_divisor = is;
  multiple = dvd-mul_right g count;
  reaches = λ positive. omega arith;
  least = λ other divides reached.
      let whole = mul-div_cancel' g divides in
      let times : num ≤ den * g * (other / g) = omega (arith, reached, ap (λ i. i * den) whole) in
      let all : g * count ≤ g * (other / g) = mul-le-mul_left g (least (other / g) times) in
      omega (arith, all, whole);
}

-- a fraction in lowest terms has a positive denominator
pub lowest_positive : (a b c d : ℕ) → 0 < b → IsLowest a b c d → 0 < d
lowest_positive a b zero zero some low = absurd (let e : 0 ≡ 1 = low.lowest 0 (dvd-zero 0) (dvd-zero 0) in omega (arith, e))
lowest_positive a b (suc n) zero some low =
    let positive : 0 < suc n * b = omega (arith, mul-le-mul_left (suc n) some) in
    absurd (omega (arith, low.same, positive))
lowest_positive a b c (suc d) some low = omega arith

-- a fraction in lowest terms has each bound of the fraction
pub bound_same : (links : List Link) (a b c d bound : ℕ) → 0 < b → IsLowest a b c d → IsBound links a b bound → IsBound links c d bound
bound_same links a b c d bound some low is = record {
  divisor = is.divisor;
  is_divisor = is.is_divisor;
  multiple = is.multiple;
  reaches = λ positive.
      let one : d * a ≤ d * (bound * b) = mul-le-mul_left d (is.reaches positive) in
      let all : b * c ≤ b * (bound * d) = omega (arith, one, low.same) in
      le_of_mul-le-mul_left all some;
  least = λ other divides reached.
      let one : b * c ≤ b * (other * d) = mul-le-mul_left b reached in
      let all : d * a ≤ d * (other * b) = omega (arith, one, low.same) in
      is.least other divides (le_of_mul-le-mul_left all (lowest_positive a b c d some low));
}

-- no numbers have the greatest common divisor 0
pub divisor_none : IsGreatestDivisor [] 0
divisor_none = record { divides = All-from_recursion (λ x. 0 ∣ x) [] tt; greatest = λ d all. dvd-zero d }

-- the greatest common divisor of two lists
pub divisor_both : (xs ys : List ℕ) (g h k : ℕ) → IsGreatestDivisor xs g → IsGreatestDivisor ys h → IsGcd g h k → IsGreatestDivisor (xs ++ ys) k
divisor_both xs ys g h k first second gcd = record {
  divides = All-append (λ x. k ∣ x) xs ys (λ i d lt. dvd_trans k gcd.0 (first.divides i d lt)) (λ i d lt. dvd_trans k gcd.1 (second.divides i d lt));
  greatest = λ d all.
      let parts = divides_parts d xs ys (recursion_from_All (λ x. d ∣ x) (xs ++ ys) all) in
      gcd.2 d (first.greatest d (All-from_recursion (λ x. d ∣ x) xs parts.0)) (second.greatest d (All-from_recursion (λ x. d ∣ x) ys parts.1));
}

-- of one number it is that number
pub divisor_one : (x : ℕ) → IsGreatestDivisor (x ∷ []) x
divisor_one x = record {
  divides = All-from_recursion (λ y. x ∣ y) (x ∷ []) (dvd_refl x, tt);
  greatest = λ d all. (recursion_from_All (λ y. d ∣ y) (x ∷ []) all).0;
}

-- one list of numbers has one greatest common divisor
pub divisor_unique : (xs : List ℕ) (g h : ℕ) → IsGreatestDivisor xs g → IsGreatestDivisor xs h → g ≡ h
divisor_unique xs g h first second = dvd_antisymm (second.greatest g first.divides) (first.greatest h second.divides)

-- 0 divides 0 alone
zero_divides : (x : ℕ) → 0 ∣ x → x ≡ 0
zero_divides x h = let whole = mul-div_cancel' 0 h in omega (arith, whole)

-- a bound of a fraction is at most each bound of an equal fraction
bound_least : (links : List Link) (a b c d x y : ℕ) → 0 < d → a * d ≡ c * b → IsBound links a b x → IsBound links c d y → x ≤ y
bound_least links a b c d x y some same first second =
    let one = divisor_unique (charges links) first.divisor second.divisor first.is_divisor second.is_divisor in
    let multiple : first.divisor ∣ y = subst (λ g. g ∣ y) (sym one) second.multiple in
    ⊎_elim
    (λ (zero : first.divisor ≡ 0). let none : 0 ∣ x = subst (λ g. g ∣ x) zero first.multiple in omega (arith, zero_divides x none))
    (λ (positive : first.divisor ≢ 0).
    let reached : c ≤ y * d = second.reaches (λ e. positive (one ∙ e)) in
    let times : b * c ≤ b * (y * d) = mul-le-mul_left b reached in
    let all : d * a ≤ d * (y * b) = omega (arith, times, same) in
    first.least y multiple (le_of_mul-le-mul_left all some))
    (cases_eq first.divisor 0)

-- a fraction has one bound
pub bound_unique : (links : List Link) (a b c d x y : ℕ) → 0 < b → 0 < d → a * d ≡ c * b → IsBound links a b x → IsBound links c d y → x ≡ y
bound_unique links a b c d x y some_b some_d same first second =
    let less = bound_least links a b c d x y some_d same first second in
    let more = bound_least links c d a b y x some_b (sym same) second first in
    omega (arith, less, more)

-- what divides numbers below a limit is below it, or all of them are 0
divisor_or_none : (g limit : ℕ) (xs : List ℕ) → AllByRecursion (λ x. x < limit) xs → AllByRecursion (λ x. g ∣ x) xs → (g < limit) ⊎ ((d : ℕ) → AllByRecursion (λ x. d ∣ x) xs)
divisor_or_none g limit [] below divides = inr (λ d. tt)
divisor_or_none g limit (x ∷ xs) below divides = ⊎_elim
    (λ (zero : x ≡ 0). ⊎_elim
    (λ low. inl low)
    (λ rest. inr (λ d. (subst (λ i. d ∣ i) (sym zero) (dvd-zero d), rest d)))
    (divisor_or_none g limit xs below.1 divides.1))
    (λ (some : x ≢ 0). let le : g ≤ x = le_of_dvd (omega arith) divides.0 in inl (omega (arith, le, below.0)))
    (cases_eq x 0)

-- the greatest common divisor of numbers below a limit is below it
pub divisor_limit : (xs : List ℕ) (g limit : ℕ) → 0 < limit → AllByRecursion (λ x. x < limit) xs → IsGreatestDivisor xs g → g < limit
divisor_limit xs g limit some below is = ⊎_elim
    (λ low. low)
    (λ all. ⊎_elim
    (λ (zero : g ≡ 0). omega arith)
    (λ (positive : g ≢ 0).
    let more : g + 1 ∣ g = is.greatest (g + 1) (All-from_recursion (λ x. g + 1 ∣ x) xs (all (g + 1))) in
    let le : g + 1 ≤ g = le_of_dvd (omega arith) more in
    absurd (omega (arith, le)))
    (cases_eq g 0))
    (divisor_or_none g limit xs below (recursion_from_All (λ x. g ∣ x) xs is.divides))

-- a quotient that is rounded up is the least number of times that reaches
pub quotient_least : (a y q : ℕ) → q * y < a + y → (c : ℕ) → a ≤ y * c → q ≤ c
quotient_least a y q low c reached =
    let less : q * y < (c + 1) * y = omega (arith, low, reached) in
    let lt : q < c + 1 = lt_of_mul-lt-mul_right y less in
    omega (arith, lt)
