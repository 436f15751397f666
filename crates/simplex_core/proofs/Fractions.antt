-- the values of rows as fractions
use Rattle.std.proofs.Common.{◌≡◌, ℕ, ◌+◌, ◌*◌, ◌++◌, List, [], ◌∷◌, length, length-append, Some, slice_get, sym, ap, subst, arith, unsigned_abs, ℤ}
use Rattle.net_core.proofs.Library.{◌∣◌}
use Rattle.checked_fraction.{specs.Terms.num, specs.declared.row.Row.Row}
use Rattle.simplex_law.specs.Terms.{dot}
use Rattle.simplex_core.{specs.inner.Commons.IsFractionOf, specs.Tables.{nums_of, den_of, nums_at, den_at}, specs.inner.Shapes.AtEach, specs.declared.fraction.Fraction.Fraction, proofs.Starts.each_push}

pub fraction_is : (x y d : ℤ) (value size : ℕ) (f : Fraction) → value ≡ unsigned_abs y → y ≡ x → size ≡ unsigned_abs d → f.num * size ≡ value * f.den → f.den ∣ size → IsFractionOf x d f
fraction_is x y d value size f of_value same of_size times divides = record {
  same = subst (λ s. f.num * s ≡ unsigned_abs x * f.den) of_size
      (subst (λ z. f.num * size ≡ unsigned_abs z * f.den) same (subst (λ v. f.num * size ≡ v * f.den) of_value times));
  divides = subst (λ s. f.den ∣ s) of_size divides;
}

-- one row more
pub fraction_push : (rows : List Row) (bound : ℕ → ℤ) (xs new : List Fraction) (i n : ℕ) (row : Row) (f : Fraction) → length xs ≡ i
    → AtEach (λ j f. IsFractionOf (dot (length rows) (nums_at rows j) bound) (den_at rows j) f) xs
    → slice_get rows i ≡ Some row → n ≡ length rows → IsFractionOf (dot n (num row.nums) bound) row.den f → new ≡ xs ++ f ∷ []
    → (length new ≡ i + 1) × AtEach (λ j f. IsFractionOf (dot (length rows) (nums_at rows j) bound) (den_at rows j) f) new
fraction_push rows bound xs new i n row f count all at width is made = (
  omega (arith, ap length made, length-append xs (f ∷ []), count),
  subst (λ ys. AtEach (λ j f. IsFractionOf (dot (length rows) (nums_at rows j) bound) (den_at rows j) f) ys) (sym made)
      (each_push (λ j f. IsFractionOf (dot (length rows) (nums_at rows j) bound) (den_at rows j) f) xs f all
      (subst (λ k. IsFractionOf (dot (length rows) (nums_at rows k) bound) (den_at rows k) f) (sym count)
      (subst (λ o. IsFractionOf (dot (length rows) (num (nums_of o)) bound) (den_of o) f) (sym at)
      (subst (λ m. IsFractionOf (dot m (num row.nums) bound) row.den f) width is)))),
)
