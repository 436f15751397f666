-- the first of the greatest fractions, one fraction after another
use Rattle.std.proofs.Common.{◌≡◌, ℕ, ◌+◌, ◌*◌, ◌<◌, ◌≤◌, sym, ap, subst, arith, ⊎_elim, mul-le-mul, mul-le-mul_right}
use Rattle.net_core.proofs.Library.{cases_lt}
use Rattle.plan_view.specs.Loads.{IsFirstOfGreatest}

-- a / b is at most c / d, and that less than e / f
less_after : (a b c d e f : ℕ) → 0 < b → 0 < d → 0 < f → a * d ≤ c * b → c * f < e * d → a * f < e * b
less_after a b c d e f pos_b pos_d pos_f le lt = ⊎_elim
    (λ l. l)
    (λ ge.
    let first : a * d * f ≤ c * b * f = mul-le-mul_right f le in
    let second : (c * f + 1) * b ≤ e * d * b = mul-le-mul_right b (omega (arith, lt)) in
    let third : e * b * d ≤ a * f * d = mul-le-mul_right d ge in
    absurd (omega (arith, first, second, third, pos_b)))
    (cases_lt (a * f) (e * b))

module _ (n : ℕ) (num den : ℕ → ℕ) where
  -- the first one alone
  pub greatest_one : 0 < den 0 → IsFirstOfGreatest 1 num den 0
  greatest_one some = record {
    below = omega arith;
    counts = some;
    most = λ j lt pos. let e : 0 ≡ j = omega (arith, lt) in subst (λ i. num i * den 0 ≤ num 0 * den i) e (omega arith);
    first = λ j lt pos. absurd (omega (arith, lt));
  }

  -- the next one isn't greater, or doesn't count
  pub greatest_kept : (k : ℕ) → IsFirstOfGreatest n num den k → (0 < den n → num n * den k ≤ num k * den n) → IsFirstOfGreatest (n + 1) num den k
  greatest_kept k is le = record {
    below = omega (arith, is.below);
    counts = is.counts;
    most = λ j lt pos. ⊎_elim
        (λ l. is.most j l pos)
        (λ ge. let e : n ≡ j = omega (arith, lt, ge) in subst (λ i. num i * den k ≤ num k * den i) e (le (subst (λ i. 0 < den i) (sym e) pos)))
        (cases_lt j n);
    first = is.first;
  }

  -- the next one is greater
  pub greatest_next : (k : ℕ) → IsFirstOfGreatest n num den k → 0 < den n → num k * den n < num n * den k → IsFirstOfGreatest (n + 1) num den n
  greatest_next k is some more = record {
    below = omega arith;
    counts = some;
    most = λ j lt pos. ⊎_elim
        (λ l. let less = less_after (num j) (den j) (num k) (den k) (num n) (den n) pos is.counts some (is.most j l pos) more in omega (arith, less))
        (λ ge. let e : n ≡ j = omega (arith, lt, ge) in subst (λ i. num i * den n ≤ num n * den i) e (omega arith))
        (cases_lt j n);
    first = λ j l pos. less_after (num j) (den j) (num k) (den k) (num n) (den n) pos is.counts some (is.most j l pos) more;
  }

  -- the first one that counts
  pub greatest_first : ((j : ℕ) → j < n → den j ≡ 0) → 0 < den n → IsFirstOfGreatest (n + 1) num den n
  greatest_first none some = record {
    below = omega arith;
    counts = some;
    most = λ j lt pos. ⊎_elim
        (λ l. absurd (let z = none j l in omega (arith, z, pos)))
        (λ ge. let e : n ≡ j = omega (arith, lt, ge) in subst (λ i. num i * den n ≤ num n * den i) e (omega arith))
        (cases_lt j n);
    first = λ j l pos. absurd (let z = none j l in omega (arith, z, pos));
  }

  -- none that counts yet
  pub none_yet : ((j : ℕ) → j < n → den j ≡ 0) → den n ≡ 0 → (j : ℕ) → j < n + 1 → den j ≡ 0
  none_yet none zero j lt = ⊎_elim
      (λ l. none j l)
      (λ ge. let e : n ≡ j = omega (arith, lt, ge) in subst (λ i. den i ≡ 0) e zero)
      (cases_lt j n)

-- what is within no capacity is 0
zero_within : (load capacity den : ℕ) → load ≤ capacity * den → capacity ≡ 0 → load ≡ 0
zero_within load capacity den within none =
    let product : capacity * den ≡ 0 * den = ap (λ x. x * den) none in
    omega (arith, within, product)

-- where no capacity is positive, no link is loaded
pub none_loaded : (n den : ℕ) (load capacity : ℕ → ℕ) → ((e : ℕ) → load e ≤ capacity e * den) → ((e : ℕ) → e < n → capacity e ≡ 0) → (e : ℕ) → e < n → load e ≡ 0
none_loaded n den load capacity within none e lt = zero_within (load e) (capacity e) den (within e) (none e lt)

-- where the first of greatest load over capacity isn't loaded, none is
pub none_at_all : (n den k : ℕ) (load capacity : ℕ → ℕ) → ((e : ℕ) → load e ≤ capacity e * den) → IsFirstOfGreatest n load capacity k → load k ≡ 0 → (e : ℕ) → e < n → load e ≡ 0
none_at_all n den k load capacity within is zero e lt = ⊎_elim
    (λ some.
    let most = is.most e lt some in
    let product : load k * capacity e ≡ 0 * capacity e = ap (λ x. x * capacity e) zero in
    let low : load e * capacity k ≤ 0 = omega (arith, most, product) in
    ⊎_elim
    (λ loaded.
    let some_load : 1 ≤ load e = omega (arith, loaded) in
    let some_capacity : 1 ≤ capacity k = omega (arith, is.counts) in
    let one : 1 * 1 ≤ load e * capacity k = mul-le-mul some_load some_capacity in
    absurd (omega (arith, one, low)))
    (λ ge. omega (arith, ge))
    (cases_lt 0 (load e)))
    (λ ge. zero_within (load e) (capacity e) den (within e) (omega (arith, ge)))
    (cases_lt 0 (capacity e))
