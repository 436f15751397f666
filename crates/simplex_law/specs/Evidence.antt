-- evidence that a number of a basis is too wide
use Rattle.std.{specs.Prelude.{ℕ, ℤ, List, pos, ◌≡◌, ◌<◌, ◌≤◌, ◌*◌, ◌^◌, ◌*ℤ◌, ◌-ℤ◌, ◌⊎◌, cond, eqb, unsigned_abs}, specs.Int.◌∣◌}
use Rattle.checked_fraction.specs.Terms.{IsInLowestTerms}
use Rattle.net_core.{specs.declared.columns.WideKind.WideKind, specs.declared.columns.WideKind.TheVariants.{Number, Row, Product, Sum, Common}, specs.Terms.sum_below}
use Rattle.simplex_law.{specs.Sums.{dot, unit_vector}, specs.Programs.{ColumnOf, slack_basis}, specs.Bases.{IsBasisRow, AreNames, IsFeasible, IsReached}}

-- 2 ^ 62 or more in absolute value
abbrev pub IsWide : ℤ → Type 0
IsWide a = 2 ^ 62 ≤ unsigned_abs a

module _ {N : Type 0} (rows : ℕ) where
  -- row i of the inverse, or the objective row where i is the count of rows, in lowest terms
  pub record IsRowOf (basis : ℕ → ColumnOf N) (i : ℕ) (nums : ℕ → ℤ) (den : ℤ) : Type 0 where
    pub place : i ≤ rows
    pub row : IsBasisRow rows basis (λ j. cond (eqb i rows) (basis j).gain (unit_vector i j)) nums den
    pub lowest : IsInLowestTerms rows nums den

  -- a number of the row, or its denominator, is wide
  abbrev pub HoldsRow : (ℕ → ColumnOf N) → ℕ → Type 0
  HoldsRow basis i = (nums : ℕ → ℤ) × (den : ℤ) × IsRowOf basis i nums den × (IsWide den ⊎ ((k : ℕ) × (k < rows) × IsWide (nums k)))

  -- the product of the row with a column is wide; for the objective row, the column's gain is first subtracted
  abbrev pub HoldsProduct : (ColumnOf N → Type 0) → (ℕ → ColumnOf N) → ℕ → N → Type 0
  HoldsProduct is_column basis i name = (nums : ℕ → ℤ) × (den : ℤ) × (c : ColumnOf N) × IsRowOf basis i nums den × is_column c × (c.name ≡ name)
      × IsWide (dot rows nums c.entry -ℤ cond (eqb i rows) (den *ℤ c.gain) (pos 0))

  -- the absolute products of the row with the bounds sum to 2 ^ 126 or more
  abbrev pub HoldsSum : (ℕ → ℤ) → (ℕ → ColumnOf N) → ℕ → Type 0
  HoldsSum bound basis i = (nums : ℕ → ℤ) × (den : ℤ) × IsRowOf basis i nums den
      × (2 ^ 126 ≤ sum_below rows (λ k. unsigned_abs (nums k) * unsigned_abs (bound k)))

  -- all denominators, the objective row's too, have no common multiple below 2 ^ 62
  abbrev pub HoldsCommon : (ℕ → ColumnOf N) → Type 0
  HoldsCommon basis = (multiple : ℕ) → 0 < multiple
      → ((i : ℕ) (nums : ℕ → ℤ) (den : ℤ) → IsRowOf basis i nums den → unsigned_abs den ∣ multiple) → 2 ^ 62 ≤ multiple

module _ {N : Type 0} (rows : ℕ) (bound : ℕ → ℤ) (slack : ℕ → N) (is_column : ColumnOf N → Type 0) where
  -- of this name, the bound of a slack's row, or a gain or an entry of a column, is wide
  abbrev pub HasWideNumber : N → Type 0
  HasWideNumber name = ((k : ℕ) × (k < rows) × (slack k ≡ name) × IsWide (bound k))
      ⊎ ((c : ColumnOf N) × is_column c × (c.name ≡ name) × (IsWide c.gain ⊎ ((k : ℕ) × (k < rows) × IsWide (c.entry k))))

  -- a number of the program itself is wide; the basis is then that of the slacks
  abbrev pub HoldsNumber : (ℕ → ColumnOf N) → N → Type 0
  HoldsNumber basis name = ((j : ℕ) → j < rows → basis j ≡ slack_basis slack j) × HasWideNumber name

  -- a kind holds of a basis of a packing program; Value and Length mean something of some programs alone, which say what
  abbrev pub HoldsKind : (ℕ → ColumnOf N) → WideKind N → Type 0
  HoldsKind basis (Number name) = HoldsNumber basis name
  HoldsKind basis (Row i) = HoldsRow rows basis i
  HoldsKind basis (Product i name) = HoldsProduct rows is_column basis i name
  HoldsKind basis (Sum i) = HoldsSum rows bound basis i
  HoldsKind basis Common = HoldsCommon rows basis
  HoldsKind basis _ = ⊥

-- Evidence where a kind holds as the program says: by HoldsKind, or by a relation that adds its own Value or Length.
module _ {N : Type 0} (rows : ℕ) (bound : ℕ → ℤ) (slack : ℕ → N) (is_column : ColumnOf N → Type 0) (holds_kind : (ℕ → ColumnOf N) → WideKind N → Type 0) where
  -- the basis of these names is feasible, and the kind holds of it
  pub record EvidenceHolds (basis : ℕ → ColumnOf N) (names : List N) (kind : WideKind N) : Type 0 where
    pub named : AreNames rows basis names
    pub feasible : IsFeasible rows bound is_column basis
    pub holds : holds_kind basis kind

  -- evidence that holds, of a basis that gaining steps reach from the slacks
  pub record IsReachedEvidence (names : List N) (kind : WideKind N) : Type 0 where
    pub basis : ℕ → ColumnOf N
    pub evidence : EvidenceHolds basis names kind
    pub reached : IsReached rows bound is_column (slack_basis slack) basis
