-- what is tested of the keys and the rows of a basis
use Rattle.std.specs.Prelude.{ℕ, ℤ, ◌≡◌, ◌<◌, ◌-ℤ◌, ◌*ℤ◌, ◌<ℤ◌, ◌≤ℤ◌, List, Some, get_or, length, pos, slice_get, slice_index}
use Rattle.checked_fraction.specs.Terms.{num}
use Rattle.plan_terms.specs.Terms.{RouteColumn, LinkSlack, DemandSlack, Carry, Demand, LinkId, Graph, Joins, IsGreatestDivisor}
use Rattle.short_paths.{specs.DistanceTables.{AreAllDistances, distance_at}, specs.declared.distance_table.DistanceTable.DistanceTable}
use Rattle.simplex_law.specs.Terms.{int_sum, unit_vector}
use Rattle.row_cuts.{specs.KeyPaths.{IsPathOf, IsBesideKeys}, specs.PathRows.{path_row, key_path}, specs.declared.path_row.PathRow.PathRow}

-- the link at a place of a path
abbrev pub link_at : List LinkId → ℕ → ℕ
link_at path i = (get_or path i (record { 0 = 0 })).0

-- the sum of a row's numbers over the links of a path
abbrev pub sum_over : (ℕ → ℤ) → List LinkId → ℤ
sum_over row path = int_sum (length path) (λ i. row (link_at path i))

-- the product of a row with what the keys leave of a column
abbrev pub product_at : List (List LinkId) → (ℕ → ℤ) → RouteColumn → ℤ
product_at keys row (LinkSlack link) = row link.0
product_at keys row (DemandSlack demand) = pos 0 -ℤ sum_over row (key_path keys demand)
product_at keys row (Carry demand path) = sum_over row path -ℤ sum_over row (key_path keys demand)

-- the first n demands have keys
abbrev pub AreKeysBelow : Graph → List Demand → List (List LinkId) → ℕ → Type 0
AreKeysBelow g demands keys n = (k : ℕ) → k < n → IsPathOf g demands k (key_path keys k)

-- a column beside the keys, over a positive denominator
pub record IsPathRow (g : Graph) (demands : List Demand) (row : PathRow) : Type 0 where
  pub beside : IsBesideKeys g demands row.column
  pub positive : pos 0 <ℤ row.den

-- the first n rows are of such columns
abbrev pub ArePathRowsBelow : Graph → List Demand → List PathRow → ℕ → Type 0
ArePathRowsBelow g demands rows n = (i : ℕ) → i < n → IsPathRow g demands (path_row rows i)

-- the products of row i with the first n columns are its denominator for its own one, and 0 for others
abbrev pub IsInverseTo : List (List LinkId) → List PathRow → PathRow → ℕ → ℕ → Type 0
IsInverseTo keys rows row i n = (j : ℕ) → j < n → product_at keys (num row.nums) (path_row rows j).column ≡ row.den *ℤ unit_vector i j

-- the products of each of the first n rows with all columns are its denominator for its own one, and 0 for others
abbrev pub AreInverseBelow : List (List LinkId) → List PathRow → ℕ → Type 0
AreInverseBelow keys rows n = (i : ℕ) → i < n → IsInverseTo keys rows (path_row rows i) i (length rows)

-- the lengths are the numbers
pub record AreNumbers (nums : List ℤ) (lengths : List ℕ) : Type 0 where
  pub count : length lengths ≡ length nums
  pub same : (e : ℕ) → e < length nums → num nums e ≡ pos (slice_index lengths e)

-- the ends of a demand are at least so far apart
abbrev pub IsFar : DistanceTable → Demand → ℤ → Type 0
IsFar table d least = (far : ℕ) × (distance_at table d.from.0 d.to.0 ≡ Some far) × (least ≤ℤ pos far)

-- the ends of the first n demands are as far apart as their keys are long
abbrev pub AreFarBelow : DistanceTable → List Demand → List (List LinkId) → List ℤ → ℕ → Type 0
AreFarBelow table demands keys nums n = (k : ℕ) (d : Demand) → k < n → slice_get demands k ≡ Some d → IsFar table d (sum_over (num nums) (key_path keys k))

-- one of the first n keys is longer than 0
abbrev pub HasLongKey : List (List LinkId) → List ℤ → ℕ → Type 0
HasLongKey keys nums n = (k : ℕ) × (k < n) × (pos 0 <ℤ sum_over (num nums) (key_path keys k))

-- keys, and rows that are those of the inverse of what the keys leave of their columns
pub record IsTestedBasis (g : Graph) (demands : List Demand) (keys : List (List LinkId)) (rows : List PathRow) : Type 0 where
  pub count : length rows ≡ length g.links
  pub keys_lead : AreKeysBelow g demands keys (length demands)
  pub placed : ArePathRowsBelow g demands rows (length rows)
  pub inverse : AreInverseBelow keys rows (length rows)

-- keys that are as long as their ends are apart under the lengths, and one that is longer than 0
pub record HasTestedKeys (g : Graph) (demands : List Demand) (keys : List (List LinkId)) (nums : List ℤ) (lengths : List ℕ) : Type 0 where
  pub table : DistanceTable
  pub distances : AreAllDistances (Joins g) lengths (length g.nodes) table
  pub far : AreFarBelow table demands keys nums (length demands)
  pub long : HasLongKey keys nums (length demands)

-- numbers of n links that are lengths without a common divisor
pub record AreLowestNumbers (n : ℕ) (nums : List ℤ) (lengths : List ℕ) : Type 0 where
  pub count : length nums ≡ n
  pub numbers : AreNumbers nums lengths
  pub lowest : IsGreatestDivisor lengths 1

-- a row of a tested basis with tested keys, and its numbers as lengths
pub record IsTestedRow (g : Graph) (demands : List Demand) (keys : List (List LinkId)) (rows : List PathRow) (nums : List ℤ) (lengths : List ℕ) : Type 0 where
  pub basis : IsTestedBasis g demands keys rows
  pub numbers : AreLowestNumbers (length g.links) nums lengths
  pub shortest : HasTestedKeys g demands keys nums lengths
