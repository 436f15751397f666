-- lists that are written item by item
use Rattle.std.proofs.Common.{◌≡◌, ℕ, ℤ, List, pos, length, slice_set, slice_get, Some, ◌+◌, ◌<◌, sym, subst, ap, ◌∙◌, arith, ⊎_elim, get_or-set_same, get_or-set_other}
use Rattle.net_core.proofs.Library.{cases_eq}
use Rattle.checked_fraction.{specs.Terms.num, specs.declared.row.Row.Row}
use Rattle.simplex_law.specs.Terms.{dot}
use Rattle.simplex_core.specs.Terms.{nums_of, nums_at, IsRectangle}
use Rattle.key_law.specs.Terms.{IsTieFirst}

-- what holds of each number before place i, and of the number that is written there, holds of one more
pub each_more : (P : ℕ → ℤ → Type 0) (xs : List ℤ) (i : ℕ) (v : ℤ) → i < length xs → ((j : ℕ) → j < i → P j (num xs j)) → P i v → (j : ℕ) → j < i + 1 → P j (num (slice_set xs i v) j)
each_more P xs i v lt before here j l = ⊎_elim
    (λ e. subst (λ k. P k (num (slice_set xs i v) k)) (sym e) (subst (λ x. P i x) (sym (get_or-set_same xs i v (pos 0) lt)) here))
    (λ ne. subst (λ x. P j x) (sym (get_or-set_other xs i j v (pos 0) ne)) (before j (omega (arith, l, ne))))
    (cases_eq j i)

-- a product with row i, whose numbers are given
pub product_at : (rows : List Row) (n i : ℕ) (row : Row) (nums : List ℤ) (a : ℕ → ℤ) (x : ℤ) → IsRectangle n rows → i < length rows → slice_get rows i ≡ Some row → nums ≡ row.nums
    → x ≡ dot (length nums) (num nums) a → x ≡ dot n (nums_at rows i) a
product_at rows n i row nums a x rectangle lt at same is =
    subst (λ m. x ≡ dot m (nums_at rows i) a) (rectangle i lt)
    (subst (λ xs. x ≡ dot (length xs) (num xs) a) (same ∙ ap nums_of (sym at)) is)

-- which of rows i and j comes first, by their numbers, which are given
pub tie_at : (rows : List Row) (n i j : ℕ) (nums others : List ℤ) (p q : ℤ) (a b : ℕ) → n ≡ length rows → nums ≡ nums_of (slice_get rows i) → others ≡ nums_of (slice_get rows j)
    → IsTieFirst n (num nums) p (num others) q a b → IsTieFirst (length rows) (nums_at rows i) p (nums_at rows j) q a b
tie_at rows n i j nums others p q a b width here there first =
    subst (λ xs. IsTieFirst (length rows) (num xs) p (nums_at rows j) q a b) here
    (subst (λ xs. IsTieFirst (length rows) (num nums) p (num xs) q a b) there
    (subst (λ m. IsTieFirst m (num nums) p (num others) q a b) width first))
