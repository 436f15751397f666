-- the multipliers of a basis that is given by its names and amounts
use Rattle.std.specs.Prelude.{ℕ, ◌≡◌, ◌≢◌, ◌<◌, ◌≤◌, ◌/◌, ◌++◌, ◌⊎◌, List, [], ◌∷◌, All, AllPairs, Contains, Some, get_or, length, map, slice_get}
use Rattle.plan_terms.specs.Terms.{MasterColumn, Metric, Link, CutLine}
use Rattle.net_core.specs.declared.columns.MasterColumn.TheVariants.{LinkSlack}
use Rattle.simplex_law.specs.Terms.{ColumnOf, AreNames}
use Rattle.master_law.specs.Terms.{AreLinesOf, cut_gain}
use Rattle.master_bound.{specs.declared.answer.Multiplier.Multiplier, specs.Answers.{cut_at, lines_of}}

-- how much is taken of a column, if it is a cut
abbrev pub amount_of : MasterColumn → ℕ → ℕ
amount_of (LinkSlack link) value = 0
amount_of (Metric state lengths) value = value

-- the amounts of the first n columns that are cuts, and 0 of slacks
pub record AreAmounts (basis : List MasterColumn) (values : List ℕ) (n : ℕ) (amounts : List ℕ) : Type 0 where
  pub count : length amounts ≡ n
  pub each : (j : ℕ) (name : MasterColumn) → j < n → slice_get basis j ≡ Some name → get_or amounts j 0 ≡ amount_of name (get_or values j 0)

-- a column is a cut of the list
pub record IsListedCut (cuts : List CutLine) (name : MasterColumn) (cut : CutLine) : Type 0 where
  pub listed : Contains cuts cut
  pub named : name ≡ Metric cut.state cut.lengths

-- the cut at this place has the column's name
pub record IsPlaceOf (cuts : List CutLine) (name : MasterColumn) (place : ℕ) : Type 0 where
  pub inside : place < length cuts
  pub named : name ≡ Metric (cut_at cuts place).state (cut_at cuts place).lengths

-- a column's multiplier has been added to the others, unless it is 0
abbrev pub PushesMultiplier : List CutLine → MasterColumn → ℕ → List Multiplier → List Multiplier → Type 0
PushesMultiplier cuts name num old new =
    ((num ≡ 0) × (new ≡ old))
    ⊎ ((place : ℕ) × IsPlaceOf cuts name place × (0 < num) × (new ≡ old ++ record { cut = place; num = num } ∷ []))

-- the multiplier is that of one of the first n columns
pub record IsMultiplierOf (cuts : List CutLine) (basis : List MasterColumn) (amounts : List ℕ) (common n : ℕ) (m : Multiplier) : Type 0 where
  pub column : ℕ
  pub before : column < n
  pub name : MasterColumn
  pub at : slice_get basis column ≡ Some name
  pub place : IsPlaceOf cuts name m.cut
  pub positive : 0 < m.num
  pub num : m.num ≡ get_or amounts column 0 / common

-- a column of a cut gains what the cut of its name in the list does
abbrev pub GainsAsCut : List Link → List CutLine → ColumnOf MasterColumn → Type 0
GainsAsCut links cuts c = (place : ℕ) → IsPlaceOf cuts c.name place → c.gain ≡ cut_gain links (cut_at cuts place)

-- two columns of one name
pub record HaveOneName (basis : List MasterColumn) : Type 0 where
  pub first : ℕ
  pub second : ℕ
  pub before : first < second
  pub name : MasterColumn
  pub at_first : slice_get basis first ≡ Some name
  pub at_second : slice_get basis second ≡ Some name

-- the multipliers of the first n columns
pub record AreBasisMultipliers (cuts : List CutLine) (basis : List MasterColumn) (amounts : List ℕ) (common n : ℕ)
    (multipliers : List Multiplier) : Type 0 where
  pub few : length multipliers ≤ n
  pub each : All (IsMultiplierOf cuts basis amounts common n) multipliers
  pub different : (HaveOneName basis → ⊥) → AllPairs (λ a b. a.cut ≢ b.cut) multipliers
  pub whole : (j : ℕ) → j < n → 0 < get_or amounts j 0 / common → Contains (map (λ m. m.num) multipliers) (get_or amounts j 0 / common)
  pub sums : (links : List Link) (columns : ℕ → ColumnOf MasterColumn) → AreNames (length basis) columns basis
      → ((j : ℕ) → j < length basis → GainsAsCut links cuts (columns j))
      → AreLinesOf links n columns (λ j. get_or amounts j 0 / common) (lines_of cuts multipliers)
