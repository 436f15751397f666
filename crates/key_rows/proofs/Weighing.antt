-- what brings the rows of a demand over one denominator
use Rattle.std.proofs.Common.{◌≡◌, ℕ, ℤ, List, pos, length, cond, eqb, get_or, slice_set, slice_get, Some, ◌+◌, ◌*◌, ◌/◌, ◌^◌, ◌<◌, ◌*ℤ◌, unsigned_abs, sym, ap, subst, ◌∙◌, arith, ⊎_elim, ◌<ℤ◌, eq-eqb, get_or-set_same, get_or-set_other}
use Rattle.net_core.proofs.Library.{◌∣◌, one-dvd, mul-div_cancel', cases_eq, ints, dvd_refl}
use Rattle.checked_fraction.{specs.Terms.{num, IsNarrow}, specs.declared.row.Row.Row}
use Rattle.simplex_core.specs.Terms.{den_at, den_of, IsLeastMultiple, IsDenominator}
use Rattle.key_rows.{specs.KeyRows.{own_den, IsOwn, AreWeights}, specs.inner.Written.AreWritten}

-- the least common multiple of a number and 1
pub multiple_of_one : (a : ℕ) → 0 < a → a < 2 ^ 62 → IsLeastMultiple a 1 a
multiple_of_one a p l = record {
  some = p;
  narrow = l;
  first = dvd_refl a;
  second = one-dvd a;
  least = λ c h k. h;
}

-- the denominator of a row that is given
pub own_den_row : (rows : List Row) (owners : List ℕ) (d i : ℕ) (row : Row) → slice_get rows i ≡ Some row → cond (eqb (get_or owners i 0) d) (unsigned_abs row.den) 1 ≡ own_den rows owners d i
own_den_row rows owners d i row at = ap (λ o. cond (eqb (get_or owners i 0) d) (unsigned_abs (den_of o)) 1) (sym at)

-- the denominator of a row of the demand divides the common one
pub own_divides : (rows : List Row) (owners : List ℕ) (d n all i : ℕ) → i < n → IsDenominator (own_den rows owners d) n all → IsOwn owners d i → unsigned_abs (den_at rows i) ∣ all
own_divides rows owners d n all i lt is own =
    subst (λ t. cond t (unsigned_abs (den_at rows i)) 1 ∣ all) (eq-eqb (get_or owners i 0) d own) (is.all i lt)

-- the quotient times the denominator
pub times_back : (all : ℕ) (den : ℤ) → pos 0 <ℤ den → unsigned_abs den ∣ all → pos (all / unsigned_abs den) *ℤ den ≡ pos all
times_back all den p h =
    let e : unsigned_abs den * (all / unsigned_abs den) ≡ all = mul-div_cancel' (unsigned_abs den) h in
    let is : den ≡ pos (unsigned_abs den) = omega (arith, ints, p) in
    ap (λ x. pos (all / unsigned_abs den) *ℤ x) is ∙ omega (arith, ints, e)

-- one weight more
pub weight_more : (rows : List Row) (owners : List ℕ) (weights : List ℤ) (d all n : ℕ) (v : ℤ) → n < length weights → IsNarrow v → (IsOwn owners d n → v *ℤ den_at rows n ≡ pos all)
    → AreWritten rows owners weights d all n → AreWritten rows owners (slice_set weights n v) d all (n + 1)
weight_more rows owners weights d all n v lt narrow is w = record {
  narrow = λ i. ⊎_elim
      (λ e. subst (λ j. IsNarrow (num (slice_set weights n v) j)) (sym e) (subst IsNarrow (sym (get_or-set_same weights n v (pos 0) lt)) narrow))
      (λ ne. subst IsNarrow (sym (get_or-set_other weights n i v (pos 0) ne)) (w.narrow i))
      (cases_eq i n);
  each = λ i l own. ⊎_elim
      (λ e. ap (λ x. x *ℤ den_at rows i) (subst (λ j. num (slice_set weights n v) j ≡ v) (sym e) (get_or-set_same weights n v (pos 0) lt))
      ∙ subst (λ j. IsOwn owners d j → v *ℤ den_at rows j ≡ pos all) (sym e) is own)
      (λ ne. ap (λ x. x *ℤ den_at rows i) (get_or-set_other weights n i v (pos 0) ne) ∙ w.each i (omega (arith, l, ne)) own)
      (cases_eq i n);
}

-- the weights of all rows
pub weights_of : (rows : List Row) (owners : List ℕ) (weights : List ℤ) (d all : ℕ) (n : ℕ) → IsDenominator (own_den rows owners d) n all → AreWritten rows owners weights d all (length rows)
    → AreWeights rows owners weights d (pos all)
weights_of rows owners weights d all n is w = record { positive = above is.some; narrow = is.narrow; each = w.each }
  where
    above : 0 < all → pos 0 <ℤ pos all
    above p = omega (arith, ints, p)
