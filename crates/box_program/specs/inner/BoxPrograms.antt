-- the program of a box: rows with bounds, and columns with names of their own
use Rattle.std.specs.Prelude.{◌≡◌, ◌≢◌, ℕ, ℤ, ◌+◌, ◌<◌, ◌<ℤ◌, ◌≤ℤ◌, List, Option, None, Some, All, AllPairs, length, pos, slice_get}
use Rattle.checked_fraction.{specs.Terms.IsNarrow, specs.declared.row.Row.Row}
use Rattle.simplex_law.specs.Terms.{ColumnOf}
use Rattle.simplex_core.{specs.Terms.{AtEach, GainsAt, column_of}, specs.declared.columns.Entry.Entry}
use Rattle.box_program.{specs.declared.candidate.Candidate.Candidate, specs.declared.program.Rated.Rated}

-- an entry of one of the first n rows, which takes something
pub record IsBoxEntry (n : ℕ) (e : Entry) : Type 0 where
  pub row : e.row < n
  pub some : pos 0 <ℤ e.value
  pub narrow : IsNarrow e.value

-- entries of the first n rows, each row once
pub record AreBoxEntries (n : ℕ) (entries : List Entry) : Type 0 where
  pub each : All (IsBoxEntry n) entries
  pub once : AllPairs (λ a b. a.row ≢ b.row) entries

-- a column of such a program: numbers that fit, and the name of its place
pub record IsBoxColumn (rows at_place : ℕ) (r : Rated) : Type 0 where
  pub name : r.column.name ≡ rows + at_place
  pub gain : IsNarrow r.column.gain
  pub entries : AreBoxEntries rows r.column.entries
  pub some : 0 < length r.column.entries
  pub weight : 0 < r.weight

-- columns of such a program, each with the name of its place
abbrev pub AreBoxColumns : ℕ → List Rated → Type 0
AreBoxColumns rows columns = AtEach (IsBoxColumn rows) columns

-- a column is put last
pub record HasColumnMore (rows : ℕ) (old new : List Rated) : Type 0 where
  pub are : AreBoxColumns rows new
  pub count : length new ≡ length old + 1

-- a bound that isn't negative, and fits
abbrev pub IsBoxBound : ℤ → Type 0
IsBoxBound b = (pos 0 ≤ℤ b) × IsNarrow b

-- a column is one of the list
pub record IsListedColumn (columns : List Rated) (c : ColumnOf ℕ) : Type 0 where
  pub place : ℕ
  pub rated : Rated
  pub there : slice_get columns place ≡ Some rated
  pub same : c ≡ column_of rated.column

-- the column at a place gains at these prices
pub record GainsAtPlace (columns : List Rated) (duals : Row) (k : ℕ) : Type 0 where
  pub rated : Rated
  pub there : slice_get columns k ≡ Some rated
  pub gains : GainsAt (length duals.nums) duals (column_of rated.column)

-- a column that gains, or the one at this place doesn't
abbrev pub IsCandidateAt : List Rated → Row → ℕ → Option Candidate → Type 0
IsCandidateAt columns duals k None = GainsAtPlace columns duals k → ⊥
IsCandidateAt columns duals k (Some c) = (c.at ≡ k) × GainsAtPlace columns duals k

-- a column that gains, or none of the first n does
abbrev pub FindsColumn : List Rated → Row → ℕ → Option Candidate → Type 0
FindsColumn columns duals n None = (k : ℕ) → k < n → GainsAtPlace columns duals k → ⊥
FindsColumn columns duals n (Some c) = (c.at < n) × GainsAtPlace columns duals c.at
