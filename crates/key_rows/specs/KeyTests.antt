-- what is too wide of a key when it is decided which column leaves
use Rattle.std.specs.Prelude.{ℕ, ℤ, List, length, ◌≡◌, ◌<◌, ◌≤◌, ◌+◌, ◌^◌, unsigned_abs}
use Rattle.checked_fraction.{specs.Terms.{num, IsReduced}, specs.declared.row.Row.Row}
use Rattle.simplex_core.specs.Terms.{HaveNoDenominator, nums_at}
use Rattle.simplex_law.specs.Terms.{dot}
use Rattle.net_core.{specs.declared.columns.RouteColumn.RouteColumn, specs.declared.ids.LinkId.LinkId}
use Rattle.key_rows.{specs.KeyRows.{own_den, AreWeights, less_rows, left_over_rows, IsWideKey}, specs.Names.{left_uses, own_entry}, specs.declared.key_row.WideKey.WideKey, specs.declared.key_row.WideKey.TheVariants.{Common, Row as RowOf}, specs.declared.keyed.Keyed.Keyed, specs.declared.ratio_test.WideTest.WideTest, specs.declared.ratio_test.WideTest.TheVariants.{Common as TestCommon, Product as TestProduct, Row as TestRow}}

module _ (b : Keyed) (d : ℕ) where
  -- the product of the key of demand d with a column over all, where the rows have these weights and own is the column's entry in the demand's row
  abbrev pub product_over : List ℤ → ℤ → ℤ → ℤ
  product_over weights all own = left_over_rows b.owners weights d all own (num b.products) (length b.rows)

  -- its product over the common denominator is 2 ^ 124 or more
  abbrev pub HasWideStep : ℤ → Type 0
  HasWideStep own = (weights : List ℤ) × (all : ℤ) × AreWeights b.rows b.owners weights d all × (2 ^ 124 ≤ unsigned_abs (product_over weights all own))

  -- the row of the key in lowest terms
  pub record IsKeyRow (row : Row) : Type 0 where
    pub weights : List ℤ
    pub all : ℤ
    pub are : AreWeights b.rows b.owners weights d all
    pub reduced : IsReduced (length b.rows) (less_rows b.rows b.owners weights d (length b.rows)) all (num row.nums) row.den

  -- the row is too wide, or the common denominator before it
  abbrev pub IsWideSpread : WideKey → Type 0
  IsWideSpread Common = HaveNoDenominator (own_den b.rows b.owners d) (length b.rows)
  IsWideSpread RowOf = (weights : List ℤ) × (all : ℤ) × AreWeights b.rows b.owners weights d all
      × IsWideKey (less_rows b.rows b.owners weights d (length b.rows)) (length b.rows) all

-- what is too wide of the key of demand d when a column of this name enters
abbrev pub IsWideKeyTest : Keyed → RouteColumn → ℕ → WideTest → Type 0
IsWideKeyTest b name d TestCommon = HaveNoDenominator (own_den b.rows b.owners d) (length b.rows)
IsWideKeyTest b name d (TestProduct role) = (role ≡ length b.rows + d) × HasWideStep b d (own_entry name d)
IsWideKeyTest b name d (TestRow role) = (role ≡ length b.rows + d) × IsWideSpread b d RowOf

-- what is too wide of some key
abbrev pub IsWideTest : Keyed → RouteColumn → WideTest → Type 0
IsWideTest b name wide = (d : ℕ) × (d < length b.duals) × IsWideKeyTest b name d wide

-- the products are those of the rows with a column of this name, of whose demand this is the key's path
abbrev pub HaveColumnProducts : Keyed → RouteColumn → List LinkId → Type 0
HaveColumnProducts b name key = (i : ℕ) → i < length b.rows → num b.products i ≡ dot (length b.rows) (nums_at b.rows i) (left_uses name key)
