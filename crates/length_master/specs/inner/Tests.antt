-- what is tested of a basis, its values and its prices
use Rattle.std.specs.Prelude.{ℕ, ℤ, ◌≡◌, ◌<◌, ◌^◌, ◌*ℤ◌, ◌≤ℤ◌, List, Some, pos, get_or, length, slice_get}
use Rattle.checked_fraction.{specs.Terms.num, specs.declared.row.Row.Row}
use Rattle.module_prices.specs.declared.cheapest.UnitPair.{UnitPair}
use Rattle.plan_terms.specs.Terms.{MasterColumn, Link, CutLine}
use Rattle.simplex_law.specs.Terms.{dot, int_sum, unit_vector}
use Rattle.master_law.specs.Terms.{cut_gain, master_bound}
use Rattle.master_bound.{specs.Answers.cut_at, specs.Narrow.length_entry}
use Rattle.length_master.{specs.declared.priced_lengths.Balance.Balance, specs.declared.row.KeptRow.KeptRow, specs.inner.Slots.{ArePlacedRows, row_at, slot_entry, slot_gain, slot_lengths, slot_name}}

-- the products of row i with the first n slots are its denominator for its own one, and 0 for others
abbrev pub IsInverseAt : List CutLine → List KeptRow → KeptRow → ℕ → ℕ → Type 0
IsInverseAt cuts rows row i n = (j : ℕ) → j < n → dot (length rows) (num row.nums) (slot_lengths cuts (row_at rows j).slot) ≡ row.den *ℤ unit_vector i j

-- the products of each of the first n rows with all slots are its denominator for its own one, and 0 for others
abbrev pub AreInverse : List CutLine → List KeptRow → ℕ → Type 0
AreInverse cuts rows n = (i : ℕ) → i < n → IsInverseAt cuts rows (row_at rows i) i (length rows)

-- what values of the first n slots take of the row of link e
abbrev pub filled_below : List UnitPair → List CutLine → List KeptRow → List ℕ → ℕ → ℕ → ℤ
filled_below pairs cuts rows values e n = int_sum n (λ j. pos (get_or values j 0) *ℤ slot_entry pairs cuts (row_at rows j).slot e)

-- values over den fill the first n rows
abbrev pub AreFilled : List UnitPair → List CutLine → List KeptRow → List ℕ → ℕ → ℕ → Type 0
AreFilled pairs cuts rows values den n = (e : ℕ) → e < n → filled_below pairs cuts rows values e (length rows) ≡ pos den *ℤ master_bound pairs e

-- what the entries of a cut cost at prices
abbrev pub cut_cost : List UnitPair → Row → CutLine → ℤ
cut_cost pairs duals cut = dot (length duals.nums) (num duals.nums) (λ e. pos (length_entry pairs cut.lengths e))

-- what a cut costs, and what its gain is worth over the prices' denominator
pub record IsBalance (links : List Link) (pairs : List UnitPair) (duals : Row) (cut : CutLine) (balance : Balance) : Type 0 where
  pub cost : balance.cost ≡ cut_cost pairs duals cut
  pub worth : balance.worth ≡ duals.den *ℤ cut_gain links cut

-- a cut gains no more than it costs
abbrev pub IsPriced : List Link → List UnitPair → Row → CutLine → Type 0
IsPriced links pairs duals cut = (duals.den *ℤ cut_gain links cut) ≤ℤ cut_cost pairs duals cut

-- the first n slots gain what they cost
abbrev pub AreEven : List Link → List UnitPair → List CutLine → List KeptRow → Row → ℕ → Type 0
AreEven links pairs cuts rows duals n = (j : ℕ) → j < n
    → dot (length duals.nums) (num duals.nums) (slot_entry pairs cuts (row_at rows j).slot) ≡ duals.den *ℤ slot_gain links cuts (row_at rows j).slot

-- none of the first n cuts gains more than it costs
abbrev pub NoneGains : List Link → List UnitPair → List CutLine → Row → ℕ → Type 0
NoneGains links pairs cuts duals n = (k : ℕ) → k < n → IsPriced links pairs duals (cut_at cuts k)

-- rows of the inverse, and values over den that fill the rows
pub record AreBasicValues (links : ℕ) (pairs : List UnitPair) (cuts : List CutLine) (rows : List KeptRow) (values : List ℕ) (den : ℕ) : Type 0 where
  pub rows_count : length rows ≡ links
  pub count : length values ≡ length rows
  pub some : 0 < den
  pub narrow : den < 2 ^ 62
  pub placed : ArePlacedRows (length cuts) rows (length rows)
  pub inverse : AreInverse cuts rows (length rows)
  pub filled : AreFilled pairs cuts rows values den (length pairs)

-- prices that aren't negative, at which the columns of the basis gain what they cost, and no cut gains more
pub record AreBestPrices (links : List Link) (pairs : List UnitPair) (cuts : List CutLine) (rows : List KeptRow) (duals : Row) : Type 0 where
  pub count : length duals.nums ≡ length links
  pub positive : (k : ℕ) → k < length duals.nums → pos 0 ≤ℤ num duals.nums k
  pub even : AreEven links pairs cuts rows duals (length rows)
  pub none : NoneGains links pairs cuts duals (length cuts)

-- the names of the first n slots
pub record AreNamesBelow (cuts : List CutLine) (rows : List KeptRow) (n : ℕ) (names : List MasterColumn) : Type 0 where
  pub count : length names ≡ n
  pub each : (j : ℕ) → j < n → slice_get names j ≡ Some (slot_name cuts (row_at rows j).slot)
