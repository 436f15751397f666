-- the columns that are handed out, and optima of the master program
use Rattle.std.{specs.Prelude.{ℕ, ◌≡◌, ◌<◌, List, [], ◌∷◌, pos, cond, nat_lt, length}, specs.List.AllByRecursion}
use Rattle.checked_fraction.specs.Terms.{IsNarrow}
use Rattle.module_prices.specs.declared.cheapest.UnitPair.{UnitPair}
use Rattle.plan_terms.specs.Terms.{MasterColumn, Metric, Master, WideKind, Link, CutLine}
use Rattle.simplex_core.{specs.Terms.{entry_of, AreEntries, Solves}, specs.declared.columns.Column.Column, specs.declared.columns.Entry.Entry, specs.declared.optimum.Optimum.Optimum}
use Rattle.master_law.specs.Terms.{cut_gain, master_bound, master_slack, IsCutColumn}
use Rattle.master_bound.{specs.declared.answer.MasterFault.MasterFault, specs.declared.answer.MasterFault.TheVariants.Wide, specs.Narrow.length_entry}

-- the entry of a row, unless it is 0
abbrev pub entry_in : ℕ → ℕ → List Entry
entry_in row value = cond (nat_lt 0 value) (record { row = row; value = pos value } ∷ []) []

-- the entries of lengths in the first n rows
pub record AreEntriesOf (pairs : List UnitPair) (lengths : List ℕ) (n : ℕ) (entries : List Entry) : Type 0 where
  pub below : AllByRecursion (λ f. f.row < n) entries
  pub are : AreEntries (length lengths) entries
  pub each : (k : ℕ) → entry_of entries k ≡ cond (nat_lt k n) (pos (length_entry pairs lengths k)) (pos 0)

-- the column of a cut
pub record IsColumnOfCut (links : List Link) (pairs : List UnitPair) (cut : CutLine) (c : Column MasterColumn) : Type 0 where
  pub named : c.name ≡ Metric cut.state cut.lengths
  pub gain : c.gain ≡ cut_gain links cut
  pub narrow : IsNarrow c.gain
  pub entries : AreEntriesOf pairs cut.lengths (length cut.lengths) c.entries

-- an optimum of the master program of the cuts
abbrev pub IsMasterSolution : List Link → List UnitPair → List CutLine → Optimum MasterColumn → Type 0
IsMasterSolution links pairs cuts = Solves (length links) (master_bound pairs) master_slack (IsCutColumn links pairs cuts)

-- the answer that this kind of the basis of these names is too wide
abbrev pub IsWideAnswer : List MasterColumn → WideKind MasterColumn → MasterFault → Type 0
IsWideAnswer basis kind fault = fault ≡ Wide (Master basis kind)
