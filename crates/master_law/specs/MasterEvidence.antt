-- evidence that a number of a master program is too wide
use Rattle.std.{specs.Prelude.{◌≡◌, ℕ, ℤ, ◌^◌, ◌≤◌, ◌<◌, ◌+ℤ◌, ◌*ℤ◌, ◌⊎◌, List, Contains, pos, length, unsigned_abs}, specs.Int.◌∣◌}
use Rattle.module_prices.specs.declared.cheapest.UnitPair.{UnitPair}
use Rattle.plan_terms.specs.Terms.{MasterColumn, Metric, WideKind, Number, Value, Link, CutLine}
use Rattle.simplex_law.specs.Terms.{int_sum, ColumnOf, slack_basis, IsBest, IsWide, IsRowOf, HoldsKind, IsReachedEvidence}
use Rattle.master_law.specs.MasterPrograms.{master_bound, master_slack, IsMasterColumn, column_given}

-- the right side of a cut of this name is 2 ^ 62 or more
pub record HasWideRight (cuts : List CutLine) (name : MasterColumn) : Type 0 where
  pub cut : CutLine
  pub listed : Contains cuts cut
  pub named : Metric cut.state cut.lengths ≡ name
  pub wide : 2 ^ 62 ≤ cut.right

module _ (links : List Link) (pairs : List UnitPair) (cuts : List CutLine) where
  -- a positive number that the denominators of all rows divide, the objective row's too
  pub record IsRowsDenominator (basis : ℕ → ColumnOf MasterColumn) (den : ℕ) : Type 0 where
    pub positive : 0 < den
    pub each : (i : ℕ) (nums : ℕ → ℤ) (d : ℤ) → IsRowOf (length links) basis i nums d → unsigned_abs d ∣ den

  -- amounts of the basic columns, over den, fill each row
  abbrev pub FillRows : (ℕ → ColumnOf MasterColumn) → (ℕ → ℤ) → ℕ → Type 0
  FillRows basis amounts den = (e : ℕ) → e < length links → int_sum (length links) (λ j. amounts j *ℤ (basis j).entry e) ≡ pos den *ℤ master_bound pairs e

  -- the first sum of the certificate: the amounts times the cuts' right sides
  abbrev pub asked_sum : (ℕ → ColumnOf MasterColumn) → (ℕ → ℤ) → ℤ
  asked_sum basis amounts = int_sum (length links) (λ j. amounts j *ℤ ((basis j).gain +ℤ pos (column_given links (basis j).name)))

  -- the second: the amounts times what the pre-installed capacities give along the cuts
  abbrev pub given_sum : (ℕ → ColumnOf MasterColumn) → (ℕ → ℤ) → ℤ
  given_sum basis amounts = int_sum (length links) (λ j. amounts j *ℤ pos (column_given links (basis j).name))

  -- an amount is 2 ^ 62 or more, or one of the certificate's two sums is 2 ^ 126 or more
  abbrev pub AreWideAmounts : (ℕ → ColumnOf MasterColumn) → (ℕ → ℤ) → Type 0
  AreWideAmounts basis amounts =
      ((j : ℕ) × (j < length links) × IsWide (amounts j)) ⊎ (2 ^ 126 ≤ unsigned_abs (asked_sum basis amounts))
      ⊎ (2 ^ 126 ≤ unsigned_abs (given_sum basis amounts))

  -- no column gains, and over each common denominator the amounts that fill the rows are wide
  pub record HasWideValue (basis : ℕ → ColumnOf MasterColumn) : Type 0 where
    pub duals : ℕ → ℤ
    pub den : ℤ
    pub best : IsBest (length links) (master_bound pairs) (IsMasterColumn links pairs cuts) basis duals den
    pub wide : (amounts : ℕ → ℤ) (common : ℕ) → IsRowsDenominator basis common → FillRows basis amounts common → AreWideAmounts basis amounts

  -- a kind holds of a basis of cuts as of each packing program
  abbrev HoldsOfProgram : (ℕ → ColumnOf MasterColumn) → WideKind MasterColumn → Type 0
  HoldsOfProgram = HoldsKind (length links) (master_bound pairs) master_slack (IsMasterColumn links pairs cuts)

  -- the basis is that of the slacks, and a cut of this name has a wide right side
  abbrev HoldsRight : (ℕ → ColumnOf MasterColumn) → MasterColumn → Type 0
  HoldsRight basis name = ((j : ℕ) → j < length links → basis j ≡ slack_basis master_slack j) × HasWideRight cuts name

  -- a kind holds of a basis of cuts: as of each packing program, Number also for a wide right side, and Value where a number of the certificate is too wide
  abbrev pub HoldsOfMaster : (ℕ → ColumnOf MasterColumn) → WideKind MasterColumn → Type 0
  HoldsOfMaster basis (Number name) = HoldsOfProgram basis (Number name) ⊎ HoldsRight basis name
  HoldsOfMaster basis Value = HasWideValue basis
  HoldsOfMaster basis kind = HoldsOfProgram basis kind

  -- evidence of the master program that holds, of a basis that gaining steps reach
  abbrev pub IsMasterEvidence : List MasterColumn → WideKind MasterColumn → Type 0
  IsMasterEvidence = IsReachedEvidence (length links) (master_bound pairs) master_slack (IsMasterColumn links pairs cuts) HoldsOfMaster
