-- the number of a vector of fractions rises with the vector
use Rattle.std.{proofs.Common.{◌≡◌, ℕ, zero, suc, ◌<◌, ◌≤◌, ◌+◌, ◌*◌, ◌-◌, ◌^◌, ◌/◌, refl, sym, ap, arith, ⊎_elim, subst, unsigned_abs, ℤ, pos, ◌+ℤ◌, ◌*ℤ◌, ◌<ℤ◌}, proofs.Math.Nat.{mul-le-mul_right, div-mul-le_self, le-div_iff_mul-le, div-lt_iff_lt-mul, pow-zero, pow-succ'}}
use Rattle.net_core.proofs.Library.{le_of_mul-le-mul_left, ints, unsigned_abs-mul, mul-le}
use Rattle.checked_fraction.specs.Terms.{IsNarrow}
use Rattle.simplex_law.{specs.inner.Lexicographic.valued, specs.inner.Measures.{AreNarrowDuals, digit, lex_number, left_below, left_over}, specs.Sums.dot, proofs.Order.{IsLexBelow, Rises}}
use borrow.Author.Differences.{up, down}

-- duals and their value are small enough to be numbered
pub record AreNumberedDuals (m : ℕ) (bound duals : ℕ → ℤ) (den : ℤ) : Type 0 where
  pub positive : pos 0 <ℤ den
  pub narrow_den : IsNarrow den
  pub narrow : (k : ℕ) → k < m → IsNarrow (duals k)
  pub value : unsigned_abs (dot m duals bound) < 2 ^ 126

-- what is left above the duals of m rows and their value: it falls where they rise
abbrev pub left_above : ℕ → (ℕ → ℤ) → (ℕ → ℤ) → ℤ → ℕ
left_above m = left_below (2 ^ 126) m

-- a * q / d against b * q / e, by cross products
div_le : (a b d e q : ℕ) → 0 < d → 0 < e → a * e ≤ b * d → (a * q) / d ≤ (b * q) / e
div_le a b d e q pd pe h =
    let z = (a * q) / d in
    let low : z * d ≤ a * q = div-mul-le_self (a * q) d in
    let m1 : (z * d) * e ≤ (a * q) * e = mul-le-mul_right e low in
    let m2 : (a * e) * q ≤ (b * d) * q = mul-le-mul_right q h in
    let all : d * (z * e) ≤ d * (b * q) = omega arith in
    (le-div_iff_mul-le pe).1 (le_of_mul-le-mul_left all pd)

div_lt : (a b d e q : ℕ) → 0 < d → 0 < e → d * e ≤ q → a * e < b * d → (a * q) / d < (b * q) / e
div_lt a b d e q pd pe big h =
    let z = (a * q) / d in
    let low : z * d ≤ a * q = div-mul-le_self (a * q) d in
    let m1 : (z * d) * e ≤ (a * q) * e = mul-le-mul_right e low in
    let m2 : (a * e + 1) * q ≤ (b * d) * q = mul-le-mul_right q (omega arith) in
    let all : d * (suc z * e) ≤ d * (b * q) = omega arith in
    (le-div_iff_mul-le pe).1 (le_of_mul-le-mul_left all pd)

-- a number within edge * d, plus edge * d, is a natural number
shifted : (edge : ℕ) (v : ℤ) (d : ℕ) → unsigned_abs v ≤ edge * d → unsigned_abs (v +ℤ pos (edge * d)) + down v ≡ up v + edge * d
shifted edge v d h = omega (arith, ints)

digit_same : (edge square : ℕ) (v w : ℤ) (d e : ℕ) → 0 < d → 0 < e → unsigned_abs v ≤ edge * d → unsigned_abs w ≤ edge * e
    → v *ℤ pos e ≡ w *ℤ pos d → digit edge square v d ≡ digit edge square w e
unfolding digit
digit_same edge square v w d e pd pe hv hw h =
    let a = unsigned_abs (v +ℤ pos (edge * d)) in
    let b = unsigned_abs (w +ℤ pos (edge * e)) in
    let u = ap (λ t. t * e) (shifted edge v d hv) in
    let x = ap (λ t. t * d) (shifted edge w e hw) in
    let cross : a * e ≡ b * d = omega (arith, ints) in
    let l = div_le a b d e square pd pe (omega arith) in
    let g = div_le b a e d square pe pd (omega arith) in
    omega arith

digit_below : (edge square : ℕ) (v w : ℤ) (d e : ℕ) → 0 < d → 0 < e → d * e ≤ square → unsigned_abs v ≤ edge * d → unsigned_abs w ≤ edge * e
    → (v *ℤ pos e) <ℤ (w *ℤ pos d) → digit edge square v d < digit edge square w e
unfolding digit
digit_below edge square v w d e pd pe big hv hw h =
    let a = unsigned_abs (v +ℤ pos (edge * d)) in
    let b = unsigned_abs (w +ℤ pos (edge * e)) in
    let u = ap (λ t. t * e) (shifted edge v d hv) in
    let x = ap (λ t. t * d) (shifted edge w e hw) in
    let cross : a * e < b * d = omega (arith, ints) in
    div_lt a b d e square pd pe big cross

digit_most : (edge square : ℕ) (v : ℤ) (d : ℕ) → 0 < d → unsigned_abs v ≤ edge * d → digit edge square v d < 2 * edge * square + 1
unfolding digit
digit_most edge square v d pd hv =
    let a = unsigned_abs (v +ℤ pos (edge * d)) in
    let s = shifted edge v d hv in
    let top : a ≤ 2 * edge * d = omega (arith, ints) in
    let m = mul-le-mul_right square top in
    let f : a * square < (2 * edge * square + 1) * d = omega arith in
    (div-lt_iff_lt-mul pd).1 f

lex_most : (base edge square n : ℕ) (v : ℕ → ℤ) (d : ℕ) → base ≡ 2 * edge * square + 1 → 0 < d → ((k : ℕ) → k < n → unsigned_abs (v k) ≤ edge * d) → lex_number base edge square n v d < base ^ n
unfolding lex_number
lex_most base edge square zero v d is pd h = omega (arith, pow-zero base)
lex_most base edge square (suc n) v d is pd h =
    let one : digit edge square (v 0) d < base = subst (λ x. digit edge square (v 0) d < x) (sym is) (digit_most edge square (v 0) d pd (h 0 (omega arith))) in
    let rest = lex_most base edge square n (λ k. v (suc k)) d is pd (λ k l. h (suc k) (omega arith)) in
    let m : (digit edge square (v 0) d + 1) * base ^ n ≤ base * base ^ n = mul-le-mul_right (base ^ n) (omega arith) in
    omega (arith, pow-succ' base n)

lex_climbs : (base edge square n : ℕ) (y z : ℕ → ℤ) (d e : ℕ) → base ≡ 2 * edge * square + 1 → 0 < d → 0 < e → d * e ≤ square
    → ((k : ℕ) → k < n → unsigned_abs (y k) ≤ edge * d) → ((k : ℕ) → k < n → unsigned_abs (z k) ≤ edge * e)
    → IsLexBelow n y (pos d) z (pos e) → lex_number base edge square n y d < lex_number base edge square n z e
unfolding lex_number
lex_climbs base edge square zero y z d e is pd pe big hy hz h = absurd h
lex_climbs base edge square (suc n) y z d e is pd pe big hy hz h = ⊎_elim
    (λ l. let f = digit_below edge square (y 0) (z 0) d e pd pe big (hy 0 (omega arith)) (hz 0 (omega arith)) l in
    let most = lex_most base edge square n (λ k. y (suc k)) d is pd (λ k m. hy (suc k) (omega arith)) in
    let m : (digit edge square (y 0) d + 1) * base ^ n ≤ digit edge square (z 0) e * base ^ n = mul-le-mul_right (base ^ n) (omega arith) in
    omega arith)
    (λ s. let f = digit_same edge square (y 0) (z 0) d e pd pe (hy 0 (omega arith)) (hz 0 (omega arith)) s.0 in
    let rest = lex_climbs base edge square n (λ k. y (suc k)) (λ k. z (suc k)) d e is pd pe big (λ k m. hy (suc k) (omega arith)) (λ k m. hz (suc k) (omega arith)) s.1 in
    let m = ap (λ t. t * base ^ n) f in
    omega arith)
    h

size_positive : (d : ℤ) → pos 0 <ℤ d → 0 < unsigned_abs d
size_positive d p = omega (arith, ints, p)

-- the value and the duals, over their denominator, don't pass the edge
pub record AreWithin (edge m : ℕ) (bound duals : ℕ → ℤ) (den : ℤ) : Type 0 where
  pub narrow : AreNarrowDuals m duals den
  pub wide_edge : 2 ^ 62 ≤ edge
  pub value : unsigned_abs (dot m duals bound) ≤ edge

within : (edge m : ℕ) (bound y : ℕ → ℤ) (d : ℤ) → AreWithin edge m bound y d → (k : ℕ) → k < m + 1 → unsigned_abs (valued m bound y k) ≤ edge * unsigned_abs d
within edge m bound y d h k l = times (unsigned_abs (valued m bound y k)) (each k l)
  where
    times : (v : ℕ) → v ≤ edge → v ≤ edge * unsigned_abs d
    times v le = let t : edge * 1 ≤ edge * unsigned_abs d = mul-le edge 1 edge (unsigned_abs d) (omega arith) (size_positive d h.narrow.positive) in omega (arith, le, t)

    each : (k : ℕ) → k < m + 1 → unsigned_abs (valued m bound y k) ≤ edge
    each zero l = h.value
    each (suc k) l = let v : unsigned_abs (y k) < 2 ^ 62 = h.narrow.narrow k (omega (arith, l)) in omega (arith, v, h.wide_edge)

-- where the duals and their value rise, less is left above them
left_below_falls : (edge m : ℕ) (bound y : ℕ → ℤ) (d : ℤ) (z : ℕ → ℤ) (e : ℤ) → AreWithin edge m bound y d → AreWithin edge m bound z e → Rises m bound y d z e
    → left_below edge m bound z e < left_below edge m bound y d
unfolding left_below
left_below_falls edge m bound y d z e hy hz rises =
    let pd = size_positive d hy.narrow.positive in
    let pe = size_positive e hz.narrow.positive in
    let nd : unsigned_abs d < 2 ^ 62 = hy.narrow.narrow_den in
    let ne : unsigned_abs e < 2 ^ 62 = hz.narrow.narrow_den in
    let big : unsigned_abs d * unsigned_abs e ≤ 2 ^ 62 * 2 ^ 62 = mul-le (unsigned_abs d) (unsigned_abs e) (2 ^ 62) (2 ^ 62) (omega (arith, nd)) (omega (arith, ne)) in
    let below : IsLexBelow (m + 1) (valued m bound y) (pos (unsigned_abs d)) (valued m bound z) (pos (unsigned_abs e)) =
    subst (λ n. IsLexBelow n (valued m bound y) (pos (unsigned_abs d)) (valued m bound z) (pos (unsigned_abs e))) (one_more m)
    (subst (λ x. IsLexBelow (suc m) (valued m bound y) x (valued m bound z) (pos (unsigned_abs e))) (of_size d hy.narrow.positive)
    (subst (λ x. IsLexBelow (suc m) (valued m bound y) d (valued m bound z) x) (of_size e hz.narrow.positive) rises)) in
    let climbs =
    lex_climbs (2 * edge * 2 ^ 124 + 1) edge (2 ^ 124) (m + 1) (valued m bound y) (valued m bound z) (unsigned_abs d) (unsigned_abs e) refl pd pe (omega (arith, big))
    (within edge m bound y d hy) (within edge m bound z e hz) below in
    let most = lex_most (2 * edge * 2 ^ 124 + 1) edge (2 ^ 124) (m + 1) (valued m bound z) (unsigned_abs e) refl pe (within edge m bound z e hz) in
    falls _ _ _ climbs most
  where
    of_size : (d : ℤ) → pos 0 <ℤ d → d ≡ pos (unsigned_abs d)
    of_size d p = omega (arith, ints, p)

    one_more : (m : ℕ) → suc m ≡ m + 1
    one_more m = omega arith

    falls : (top a b : ℕ) → a < b → b < top → top - b < top - a
    falls top a b h i = omega (arith, h, i)

-- for duals whose value is small enough
pub left_falls : (m : ℕ) (bound y : ℕ → ℤ) (d : ℤ) (z : ℕ → ℤ) (e : ℤ) → AreNumberedDuals m bound y d → AreNumberedDuals m bound z e → Rises m bound y d z e
    → left_above m bound z e < left_above m bound y d
left_falls m bound y d z e hy hz rises = left_below_falls (2 ^ 126) m bound y d z e (small hy) (small hz) rises
  where
    small : {y : ℕ → ℤ} {d : ℤ} → AreNumberedDuals m bound y d → AreWithin (2 ^ 126) m bound y d
    small {y} {d} h = let v : unsigned_abs (dot m y bound) < 2 ^ 126 = h.value in
        record { narrow = record { positive = h.positive; narrow_den = h.narrow_den; narrow = h.narrow }; wide_edge = omega arith; value = omega (arith, v) }

-- a product of narrow numbers is no more than 2 ^ 124 for each of them
dot_narrow : (m : ℕ) (y b : ℕ → ℤ) → ((k : ℕ) → k < m → IsNarrow (y k)) → ((k : ℕ) → k < m → IsNarrow (b k)) → unsigned_abs (dot m y b) ≤ m * 2 ^ 124
dot_narrow zero y b ny nb = omega (arith, ints)
dot_narrow (suc m) y b ny nb =
    let before = dot_narrow m y b (λ k l. ny k (omega (arith, l))) (λ k l. nb k (omega (arith, l))) in
    let y' : unsigned_abs (y m) < 2 ^ 62 = ny m (omega arith) in
    let b' : unsigned_abs (b m) < 2 ^ 62 = nb m (omega arith) in
    let t : unsigned_abs (y m) * unsigned_abs (b m) ≤ 2 ^ 62 * 2 ^ 62 = mul-le (unsigned_abs (y m)) (unsigned_abs (b m)) (2 ^ 62) (2 ^ 62) (omega (arith, y')) (omega (arith, b')) in
    both (dot m y b) (y m *ℤ b m) (unsigned_abs (y m) * unsigned_abs (b m)) m before (unsigned_abs-mul (y m) (b m)) t
  where
    both : (x z : ℤ) (p m : ℕ) → unsigned_abs x ≤ m * 2 ^ 124 → unsigned_abs z ≡ p → p ≤ 2 ^ 62 * 2 ^ 62 → unsigned_abs (x +ℤ z) ≤ suc m * 2 ^ 124
    both x z p m a e l = omega (arith, ints, a, e, l)

-- for narrow duals at narrow bounds, whatever their value
pub left_over_falls : (m : ℕ) (bound y : ℕ → ℤ) (d : ℤ) (z : ℕ → ℤ) (e : ℤ) → ((k : ℕ) → k < m → IsNarrow (bound k)) → AreNarrowDuals m y d → AreNarrowDuals m z e → Rises m bound y d z e
    → left_over m bound z e < left_over m bound y d
left_over_falls m bound y d z e nb hy hz rises = left_below_falls ((m + 1) * 2 ^ 124) m bound y d z e (small hy) (small hz) rises
  where
    small : {y : ℕ → ℤ} {d : ℤ} → AreNarrowDuals m y d → AreWithin ((m + 1) * 2 ^ 124) m bound y d
    small {y} {d} h = record { narrow = h; wide_edge = omega arith; value = up (unsigned_abs (dot m y bound)) (dot_narrow m y bound h.narrow nb) }
      where
        up : (v : ℕ) → v ≤ m * 2 ^ 124 → v ≤ (m + 1) * 2 ^ 124
        up v le = omega (arith, le)
