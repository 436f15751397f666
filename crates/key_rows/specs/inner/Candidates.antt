-- keys as candidates, and which of two comes first
use Rattle.std.{specs.Prelude.{ℕ, ℤ, List, length, Option, Some, None, Result, Ok, Err, pos, ◌≡◌, ◌<◌, ◌≤◌, ◌+◌, ◌-◌, ◌≤ℤ◌, ◌<ℤ◌, ◌+ℤ◌, ◌*ℤ◌, ◌⊎◌, Bool, true, false}, specs.List.slice_get}
use Rattle.checked_fraction.{specs.Terms.num, specs.declared.row.Row.Row}
use Rattle.simplex_core.specs.Terms.{HaveNoDenominator, nums_of}
use Rattle.simplex_law.specs.Terms.{dot}
use Rattle.net_core.{specs.declared.columns.RouteColumn.RouteColumn, specs.declared.ids.LinkId.LinkId}
use Rattle.key_law.specs.Terms.{IsTieFirst}
use Rattle.key_rows.{specs.KeyRows.{amounts, own_den, AreWeights, left_over_rows}, specs.Names.{left_uses, own_entry}, specs.inner.Orders.IsRowCandidate, specs.declared.key_row.WideKey.WideKey, specs.declared.key_row.WideKey.TheVariants.{Common, Row as RowOf}, specs.declared.keyed.Keyed.Keyed, specs.declared.ratio_test.WideTest.WideTest, specs.declared.ratio_test.WideTest.TheVariants.{Common as TestCommon, Product as TestProduct, Row as TestRow}, specs.declared.order.Candidate.Candidate, specs.KeyTests.{product_over, HasWideStep, IsKeyRow, IsWideSpread}}

module _ (b : Keyed) (d : ℕ) where
  -- the value of the key of demand d over all, where the rows have these weights
  abbrev pub value_over : List ℤ → ℤ → ℤ
  value_over weights all = left_over_rows b.owners weights d all (num b.bounds (length b.rows + d)) (amounts b.values) (length b.rows)

  -- a key with its value and its product, which is positive, over the common denominator of the demand's rows
  pub record IsKeyCandidate (own : ℤ) (x : Candidate) : Type 0 where
    pub weights : List ℤ
    pub all : ℤ
    pub are : AreWeights b.rows b.owners weights d all
    pub role : x.role ≡ length b.rows + d
    pub value : pos x.value ≡ value_over weights all
    pub product : x.product ≡ product_over b d weights all own
    pub positive : pos 0 <ℤ x.product

  -- its product isn't positive
  abbrev pub HasNoStep : ℤ → Type 0
  HasNoStep own = (weights : List ℤ) × (all : ℤ) × AreWeights b.rows b.owners weights d all × (product_over b d weights all own ≤ℤ pos 0)

  -- the key as a candidate, if its product is positive
  abbrev pub IsKeyTest : ℤ → Result (Option Candidate) WideTest → Type 0
  IsKeyTest own (Ok None) = HasNoStep own
  IsKeyTest own (Ok (Some x)) = IsKeyCandidate own x
  IsKeyTest own (Err TestCommon) = HaveNoDenominator (own_den b.rows b.owners d) (length b.rows)
  IsKeyTest own (Err (TestProduct role)) = (role ≡ length b.rows + d) × HasWideStep b d own
  IsKeyTest own (Err (TestRow role)) = ⊥

-- what is too wide of a key's row, as the ratio test names it
abbrev pub wide_test_of : WideKey → ℕ → WideTest
wide_test_of Common role = TestCommon
wide_test_of RowOf role = TestRow role

-- what is too wide of the row of demand d's key, in this role
abbrev pub IsWideRowTest : Keyed → ℕ → ℕ → WideTest → Type 0
IsWideRowTest b d role TestCommon = IsWideSpread b d Common
IsWideRowTest b d role (TestRow r) = (r ≡ role) × IsWideSpread b d RowOf
IsWideRowTest b d role (TestProduct r) = ⊥

-- a row, or a key when a column of this name enters, with its value and its product, which is positive
abbrev pub IsLeavingCandidate : Keyed → RouteColumn → Candidate → Type 0
IsLeavingCandidate b name x = IsRowCandidate (length b.rows) b.values b.products x
    ⊎ ((length b.rows ≤ x.role) × IsKeyCandidate b (x.role - length b.rows) (own_entry name (x.role - length b.rows)) x)

-- a candidate whose role there is
pub record IsPlacedCandidate (b : Keyed) (name : RouteColumn) (x : Candidate) : Type 0 where
  pub inside : x.role < length b.rows + length b.duals
  pub is : IsLeavingCandidate b name x

-- a column of this name enters, of whose demand this is the key's path
module _ (b : Keyed) (name : RouteColumn) (key : List LinkId) where
  -- the product of a row of demand d's key
  abbrev pub lowered_step : ℕ → Row → ℤ
  lowered_step d row = dot (length b.rows) (num row.nums) (left_uses name key) +ℤ (row.den *ℤ own_entry name d)

  -- a key's row in lowest terms, and its product
  pub record IsLoweredKey (x : Candidate) (nums : List ℤ) (product : ℤ) : Type 0 where
    pub demand : ℕ
    pub role : x.role ≡ length b.rows + demand
    pub row : Row
    pub is_row : IsKeyRow b demand row
    pub nums_are : nums ≡ row.nums
    pub product_is : product ≡ lowered_step demand row

  -- the numbers of a candidate's row in lowest terms, and its product
  abbrev pub IsLowered : Candidate → List ℤ → ℤ → Type 0
  IsLowered x nums product = ((x.role < length b.rows) × (nums ≡ nums_of (slice_get b.rows x.role)) × (product ≡ x.product)) ⊎ IsLoweredKey x nums product

  -- the first comes before the second, where their values tie
  pub record IsTiedFirst (x y : Candidate) : Type 0 where
    pub nums : List ℤ
    pub product : ℤ
    pub others : List ℤ
    pub other : ℤ
    pub first : IsLowered x nums product
    pub second : IsLowered y others other
    pub tie : IsTieFirst (length b.rows) (num nums) product (num others) other x.role y.role

  -- which of two comes first
  abbrev pub DecidesTie : Candidate → Candidate → Bool → Type 0
  DecidesTie x y true = IsTiedFirst x y
  DecidesTie x y false = IsTiedFirst y x

  -- the first comes before the second
  abbrev pub LeavesFirst : Candidate → Candidate → Type 0
  LeavesFirst x y = ((pos x.value *ℤ y.product) <ℤ (pos y.value *ℤ x.product)) ⊎ ((pos x.value *ℤ y.product ≡ pos y.value *ℤ x.product) × IsTiedFirst x y)

  -- a key, or that one of demand d, is the better of two of which it is one
  abbrev pub IsBetterKey : Candidate → Candidate → Candidate → Type 0
  IsBetterKey best x better = ((better ≡ best) × LeavesFirst best x) ⊎ ((better ≡ x) × LeavesFirst x best)

-- the best so far and a candidate more
abbrev pub IsJoined : Keyed → RouteColumn → List LinkId → Option Candidate → Candidate → Option Candidate → Type 0
IsJoined b name key None x after = after ≡ Some x
IsJoined b name key (Some best) x after = (better : Candidate) × (after ≡ Some better) × IsBetterKey b name key best x better

-- the best so far and the key of demand d: it may be the best itself, or have no step
abbrev pub IsWithKey : Keyed → RouteColumn → List LinkId → ℕ → Option Candidate → Option Candidate → Type 0
IsWithKey b name key d best after = (HasNoStep b d (own_entry name d) × (after ≡ best))
    ⊎ (((same : Candidate) × (best ≡ Some same) × (same.role ≡ length b.rows + d) × (after ≡ best))
    ⊎ ((x : Candidate) × IsKeyCandidate b d (own_entry name d) x × IsJoined b name key best x after))
