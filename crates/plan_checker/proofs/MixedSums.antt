-- sums of mixed numbers
use Rattle.std.proofs.Common.{◌≡◌, ℕ, ◌+◌, ◌-◌, ◌*◌, ◌/◌, ◌%◌, ◌^◌, ◌<◌, ◌≤◌, ap, min, arith, ⊎_elim, mul-le-mul_left}
use Rattle.net_core.proofs.Library.{cases_lt}
use Rattle.plan_checker.{specs.inner.Mixed.IsMixed, specs.declared.mixed.Mixed.Mixed}

pub mixed_of : (den num : ℕ) → 0 < den → num < 2 ^ 128 → IsMixed den num (record { whole = num / den; rest = num % den })
mixed_of den num some low = record {
  count = num / den;
  parts = omega arith;
  small = omega arith;
  held =
      let times : num / den * 1 ≤ num / den * den = mul-le-mul_left (num / den) some in
      omega (arith, times);
}

module _ (den n m : ℕ) (a b : Mixed) (first : IsMixed den n a) (second : IsMixed den m b) (whole : ℕ) (sum : whole ≡ min (a.whole + b.whole) (2 ^ 128 - 1)) where
  -- rests that don't fill the denominator
  pub mixed_sum : a.rest + b.rest < den → IsMixed den (n + m) (record { whole = whole; rest = a.rest + b.rest })
  mixed_sum lt = record {
    count = first.count + second.count;
    parts = omega (arith, first.parts, second.parts);
    small = lt;
    held = omega (arith, sum, first.held, second.held);
  }

  -- rests that do
  pub mixed_carry : (next : ℕ) → next ≡ min (whole + 1) (2 ^ 128 - 1) → den ≤ a.rest + b.rest → IsMixed den (n + m) (record { whole = next; rest = a.rest + b.rest - den })
  mixed_carry next one le = record {
    count = first.count + second.count + 1;
    parts = omega (arith, first.parts, second.parts, le);
    small = omega (arith, first.small, second.small, le);
    held = omega (arith, sum, one, first.held, second.held);
  }

module _ (den n whole : ℕ) (m : Mixed) (is : IsMixed den n m) (low : whole < 2 ^ 128 - 1) where
  count_below : is.count < whole → n < whole * den
  count_below lt =
      let times : den * (is.count + 1) ≤ den * whole = mul-le-mul_left den (omega (arith, lt)) in
      omega (arith, times, is.parts, is.small)

  count_above : whole < is.count → whole * den < n
  count_above lt =
      let times : den * (whole + 1) ≤ den * is.count = mul-le-mul_left den (omega (arith, lt)) in
      omega (arith, times, is.parts, is.small)

  -- a number that is a whole one
  pub mixed_whole : n ≡ whole * den → (m.whole ≡ whole) × (m.rest ≡ 0)
  mixed_whole same = ⊎_elim
      (λ lt. absurd (omega (arith, same, count_below lt)))
      (λ ge. ⊎_elim
      (λ lt. absurd (omega (arith, same, count_above lt)))
      (λ le. (omega (arith, ge, le, is.held, low), let e : is.count ≡ whole = omega (arith, ge, le) in rest_none e same))
      (cases_lt whole is.count))
      (cases_lt is.count whole)
    where
      rest_none : is.count ≡ whole → n ≡ whole * den → m.rest ≡ 0
      rest_none e same = let times : den * is.count ≡ den * whole = ap (λ i. den * i) e in omega (arith, times, same, is.parts)
