-- packing programs: the greatest gain of columns that fit into bounds
use Rattle.std.specs.Prelude.{ℕ, ℤ, List, [], ◌∷◌, pos, ◌≡◌, ◌<◌, ◌+ℤ◌, ◌<ℤ◌, ◌≤ℤ◌, ◌⊎◌, cond, eqb}
use Rattle.checked_fraction.specs.Terms.{IsNarrow}
use Rattle.simplex_law.specs.Sums.{unit_vector}

-- a column: its name, its gain, and its entry in each row
pub record ColumnOf (N : Type 0) : Type 0 where
  pub name : N
  pub gain : ℤ
  pub entry : ℕ → ℤ

-- what entries, each with its row and its value, hold in row k
abbrev pub entry_at : {E : Type 0} → (E → ℕ) → (E → ℤ) → List E → ℕ → ℤ
entry_at row value [] k = pos 0
entry_at row value (e ∷ es) k = cond (eqb (row e) k) (value e) (pos 0) +ℤ entry_at row value es k

-- what a row has left: gain 0, and one entry, which is 1
pub record IsSlack {N : Type 0} (rows : ℕ) (slack : ℕ → N) (c : ColumnOf N) : Type 0 where
  pub row : ℕ
  pub inside : row < rows
  pub named : c.name ≡ slack row
  pub gain : c.gain ≡ pos 0
  pub entry : (k : ℕ) → k < rows → c.entry k ≡ unit_vector row k

-- the slack columns in the order of their rows
abbrev pub slack_basis : {N : Type 0} → (ℕ → N) → ℕ → ColumnOf N
slack_basis slack k = record { name = slack k; gain = pos 0; entry = unit_vector k }

-- the columns of a program: those of a list, and the slacks
abbrev pub IsProgramColumn : {N : Type 0} → ℕ → (ℕ → N) → (ColumnOf N → Type 0) → ColumnOf N → Type 0
IsProgramColumn rows slack is_listed c = is_listed c ⊎ IsSlack rows slack c

-- a packing program: no bound and no entry is negative, all numbers are below 2 ^ 62, what gains is limited by a row, and a name has one column
pub record IsPacking {N : Type 0} (rows : ℕ) (bound : ℕ → ℤ) (is_column : ColumnOf N → Type 0) : Type 0 where
  pub bounds : (k : ℕ) → k < rows → (pos 0 ≤ℤ bound k) × IsNarrow (bound k)
  pub gains : (c : ColumnOf N) → is_column c → IsNarrow c.gain
  pub entries : (c : ColumnOf N) → is_column c → (k : ℕ) → k < rows → (pos 0 ≤ℤ c.entry k) × IsNarrow (c.entry k)
  pub limited : (c : ColumnOf N) → is_column c → pos 0 <ℤ c.gain → (k : ℕ) × (k < rows) × (pos 0 <ℤ c.entry k)
  pub named : (c d : ColumnOf N) → is_column c → is_column d → c.name ≡ d.name → (c.gain ≡ d.gain) × ((k : ℕ) → k < rows → c.entry k ≡ d.entry k)
