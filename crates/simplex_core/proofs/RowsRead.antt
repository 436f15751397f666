-- what the code reads of a table's rows
use Rattle.std.proofs.Common.{◌≡◌, ◌≢◌, ℕ, ◌<◌, ◌+◌, ◌^◌, List, length, Option, slice_get, slice_set, get_or, get_or-set_same, get_or-set_other, below_more, sym, ap, subst, ◌∙◌, arith, unsigned_abs, ℤ, ◌*ℤ◌, Ordering}
use Rattle.checked_fraction.{specs.Terms.num, specs.declared.row.Row.Row}
use Rattle.simplex_law.specs.Terms.{dot}
use Rattle.simplex_core.{specs.Columns.entry_of, specs.Orders.ComparesNumbers, specs.Tables.{nums_of, nums_at, IsRectangle}, specs.inner.Products.AreProducts, specs.inner.Values.IsValueOf, specs.declared.columns.Entry.Entry, proofs.Lists.read_at}

-- the numbers of row i
pub numbers_at : (rows : List Row) (i : ℕ) (row : Row) (nums : List ℤ) → i < length rows → row ≡ get_or rows i row → nums ≡ row.nums → nums ≡ nums_of (slice_get rows i)
numbers_at rows i row nums lt is same = same ∙ sym (ap nums_of (read_at rows i row lt is))

-- how many there are
pub width_at : (rows : List Row) (i : ℕ) (nums : List ℤ) → i < length rows → IsRectangle (length rows) rows → nums ≡ nums_of (slice_get rows i) → length nums ≡ length rows
width_at rows i nums lt square is = ap length is ∙ square i lt

-- their value
pub value_at_row : (rows : List Row) (bound : ℕ → ℤ) (i : ℕ) (nums : List ℤ) (value : Option ℤ) → length nums ≡ length rows → nums ≡ nums_of (slice_get rows i)
    → IsValueOf (length nums) (num nums) bound value → IsValueOf (length rows) (nums_at rows i) bound value
value_at_row rows bound i nums value width is h =
    subst (λ xs. IsValueOf (length rows) (num xs) bound value) is (subst (λ n. IsValueOf n (num nums) bound value) width h)

-- how they compare with those of row j
pub compares_at : (rows : List Row) (i j : ℕ) (nums others : List ℤ) (p q : ℤ) (order : Ordering) → length nums ≡ length rows → nums ≡ nums_of (slice_get rows i) → others ≡ nums_of (slice_get rows j)
    → ComparesNumbers (length nums) (λ k. num nums k *ℤ q) (λ k. num others k *ℤ p) order → ComparesNumbers (length rows) (λ k. nums_at rows i k *ℤ q) (λ k. nums_at rows j k *ℤ p) order
compares_at rows i j nums others p q order width here there h =
    subst (λ xs. ComparesNumbers (length rows) (λ k. num xs k *ℤ q) (λ k. nums_at rows j k *ℤ p) order) here
    (subst (λ xs. ComparesNumbers (length rows) (λ k. num nums k *ℤ q) (λ k. num xs k *ℤ p) order) there
    (subst (λ n. ComparesNumbers n (λ k. num nums k *ℤ q) (λ k. num others k *ℤ p) order) width h))

-- their product with entries
pub dot_at : (rows : List Row) (entries : List Entry) (i : ℕ) (nums : List ℤ) → length nums ≡ length rows → nums ≡ nums_of (slice_get rows i)
    → dot (length nums) (num nums) (entry_of entries) ≡ dot (length rows) (nums_at rows i) (entry_of entries)
dot_at rows entries i nums width is = ap (λ n. dot n (num nums) (entry_of entries)) width ∙ ap (λ xs. dot (length rows) (num xs) (entry_of entries)) is

-- one product more is written
pub products_more : (rows : List Row) (entries : List Entry) (products : List ℤ) (n : ℕ) (p : ℤ) → n < length products → AreProducts rows entries products n
    → p ≡ dot (length rows) (nums_at rows n) (entry_of entries) → unsigned_abs p < 2 ^ 126 → AreProducts rows entries (slice_set products n p) (n + 1)
products_more rows entries products n p lt before is low =
    let P : ℕ → Type 0 =
    λ i. (num (slice_set products n p) i ≡ dot (length rows) (nums_at rows i) (entry_of entries)) × (unsigned_abs (num (slice_set products n p) i) < 2 ^ 126) in
    below_more P n
    (λ i l. let ne : i ≢ n = omega arith in rw get_or-set_other (before i l))
    (rw get_or-set_same (is, low))
