-- the columns that the code has, as columns of a program
use Rattle.std.{specs.Prelude.{ℕ, ℤ, List, [], ◌∷◌, pos, ◌≢◌, ◌<◌, ◌≤ℤ◌}, specs.List.AllByRecursion}
use Rattle.checked_fraction.specs.Terms.{IsNarrow}
use Rattle.simplex_law.specs.Terms.{ColumnOf, entry_at}
use Rattle.simplex_core.{specs.declared.columns.Column.Column, specs.declared.columns.Entry.Entry}

-- what entries hold in row k
abbrev pub entry_of : List Entry → ℕ → ℤ
entry_of = entry_at (λ e. e.row) (λ e. e.value)

-- a column of a program, from its parts
abbrev pub column_from : {N : Type 0} → N → ℤ → List Entry → ColumnOf N
column_from name gain entries = record { name = name; gain = gain; entry = entry_of entries }

abbrev pub column_of : {N : Type 0} → Column N → ColumnOf N
column_of c = column_from c.name c.gain c.entries

-- an entry of one of m rows, which is 0 or more and below 2 ^ 62
pub record IsEntry (m : ℕ) (e : Entry) : Type 0 where
  pub inside : e.row < m
  pub positive : pos 0 ≤ℤ e.value
  pub narrow : IsNarrow e.value

-- no row appears twice
abbrev pub HaveApartRows : List Entry → Type 0
HaveApartRows [] = Unit {0}
HaveApartRows (e ∷ es) = AllByRecursion (λ f. e.row ≢ f.row) es × HaveApartRows es

-- entries of m rows, each row once
pub record AreEntries (m : ℕ) (entries : List Entry) : Type 0 where
  pub each : AllByRecursion (IsEntry m) entries
  pub once : HaveApartRows entries
