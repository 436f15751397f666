-- what a turn leaves
use Rattle.std.specs.Prelude.{ℕ, ℤ, pos, slice_set, ◌≡◌, ◌≢◌, ◌<◌, ◌≤◌, ◌^◌, ◌-ℤ◌, ◌*ℤ◌, ◌<ℤ◌, ◌≤ℤ◌, ◌⊎◌, unsigned_abs}
use Rattle.checked_fraction.{specs.Terms.{num, combined, IsTooWide}, specs.declared.row.Row.Row, specs.declared.wide.WideNumber.WideNumber}
use Rattle.net_core.{specs.declared.columns.WideKind.WideKind, specs.declared.columns.WideKind.TheVariants.{Number, Row as RowOf, Product, Sum, Common, Value, Length}}
use Rattle.simplex_law.specs.Terms.{dot, ColumnOf, IsProgramColumn, IsWide, IsPick, IsTurned}
use Rattle.simplex_core.{specs.Tables.{nums_at, den_at}, specs.Prices.GainsAt, specs.inner.Shapes.IsShaped, specs.inner.Values.sizes_of, specs.declared.basis.Basis.Basis, specs.declared.solver.Turn.Turn, specs.declared.solver.Turn.TheVariants.{Again, Best, Unbounded, Wide, NoMemory}}

-- the product of the objective row with a column, less the column's gain over the row's denominator
abbrev pub reduced_cost : {N : Type 0} → ℕ → Row → ColumnOf N → ℤ
reduced_cost m duals c = dot m (num duals.nums) c.entry -ℤ (duals.den *ℤ c.gain)

module _ {N : Type 0} (m : ℕ) (old : Basis N) (c : ColumnOf N) where
  -- row r leaves for the column
  abbrev pub Picks : ℕ → Type 0
  Picks r = IsPick m (num old.bounds) (nums_at old.rows) (num old.duals.nums) old.duals.den c r

  -- the rows and the objective row of the basis where the column is at r
  pub record TurnsTo (r : ℕ) (new : Basis N) : Type 0 where
    pub pick : Picks r
    pub turned : IsTurned m c r (nums_at old.rows) (nums_at new.rows) (den_at old.rows) (den_at new.rows) (num old.duals.nums)
        (num new.duals.nums) old.duals.den new.duals.den
    pub names : new.names ≡ slice_set old.names r c.name
    pub bounds : new.bounds ≡ old.bounds
    pub shaped : IsShaped m new

  -- an objective row that gets too wide where the column is at r
  abbrev pub IsWideObjective : ℕ → Type 0
  IsWideObjective r = (wide : WideNumber) × IsTooWide m (combined (num old.duals.nums) (reduced_cost m old.duals c) (nums_at old.rows r)
      (dot m (nums_at old.rows r) c.entry)) (old.duals.den *ℤ dot m (nums_at old.rows r) c.entry) wide

  -- row i gets too wide
  abbrev pub IsWideOther : ℕ → ℕ → Type 0
  IsWideOther r i = (i < m) × (i ≢ r) × ((wide : WideNumber)
      × IsTooWide m (combined (nums_at old.rows i) (dot m (nums_at old.rows i) c.entry) (nums_at old.rows r) (dot m (nums_at old.rows r) c.entry))
      (den_at old.rows i *ℤ dot m (nums_at old.rows r) c.entry) wide)

  -- what is too wide: in the basis before, or in the one that the column has entered
  abbrev pub GetsWide : WideKind N → Basis N → Type 0
  GetsWide (RowOf i) new = (r : ℕ) × Picks r × (new.names ≡ slice_set old.names r c.name) × (((i ≡ m) × IsWideObjective r) ⊎ IsWideOther r i)
  GetsWide (Product i name) new = (new.names ≡ old.names) × (name ≡ c.name)
      × (((i ≡ m) × IsWide (reduced_cost m old.duals c)) ⊎ ((i < m) × IsWide (dot m (nums_at old.rows i) c.entry)))
  GetsWide (Sum i) new = ((new.names ≡ old.names) × (i < m) × (2 ^ 126 ≤ sizes_of m (nums_at old.rows i) (num old.bounds)))
      ⊎ ((i ≡ m) × ((r : ℕ) × TurnsTo r new) × (2 ^ 126 ≤ sizes_of m (num new.duals.nums) (num new.bounds)))
  GetsWide (Number name) new = ⊥
  GetsWide Common new = ⊥
  GetsWide Value new = ⊥
  GetsWide (Length link) new = ⊥

  -- what comes of a column that enters
  abbrev pub Enters : Turn N → Basis N → Type 0
  Enters Again new = ((r : ℕ) × TurnsTo r new) × (unsigned_abs (dot m (num new.duals.nums) (num new.bounds)) < 2 ^ 126)
  Enters (Wide kind) new = GetsWide kind new
  Enters Unbounded new = (i : ℕ) → i < m → dot m (nums_at old.rows i) c.entry ≤ℤ pos 0
  Enters Best new = ⊥
  Enters NoMemory new = ⊥

-- a column of this name and reduced cost, whose products the basis holds, and for which row r leaves
pub record Chooses {N : Type 0} (m : ℕ) (old : Basis N) (c : ColumnOf N) (name : N) (cost : ℤ) (r : ℕ) : Type 0 where
  pub named : c.name ≡ name
  pub priced : cost ≡ reduced_cost m old.duals c
  pub products : (i : ℕ) → i < m → num old.products i ≡ dot m (nums_at old.rows i) c.entry
  pub picks : Picks m old c r

-- no dual is negative, and no listed column gains
pub record IsDone {N : Type 0} (m : ℕ) (is_listed : ColumnOf N → Type 0) (b : Basis N) : Type 0 where
  pub positive : (k : ℕ) → k < m → pos 0 ≤ℤ num b.duals.nums k
  pub none : (c : ColumnOf N) → is_listed c → GainsAt m b.duals c → ⊥

-- a column of the program that gains enters
pub record HasEntered {N : Type 0} (m : ℕ) (slack : ℕ → N) (is_listed : ColumnOf N → Type 0) (old : Basis N) (turn : Turn N) (new : Basis N) : Type 0 where
  pub column : ColumnOf N
  pub is_column : IsProgramColumn m slack is_listed column
  pub gains : reduced_cost m old.duals column <ℤ pos 0
  pub enters : Enters m old column turn new

-- what a turn leaves
abbrev pub IsTurnOutcome : {N : Type 0} → ℕ → (ℕ → N) → (ColumnOf N → Type 0) → Basis N → Turn N → Basis N → Type 0
IsTurnOutcome m slack is_listed old Best new = (new ≡ old) × IsDone m is_listed old
IsTurnOutcome m slack is_listed old NoMemory new = Unit {0}
IsTurnOutcome m slack is_listed old Again new = HasEntered m slack is_listed old Again new
IsTurnOutcome m slack is_listed old (Wide kind) new = HasEntered m slack is_listed old (Wide kind) new
IsTurnOutcome m slack is_listed old Unbounded new = HasEntered m slack is_listed old Unbounded new
