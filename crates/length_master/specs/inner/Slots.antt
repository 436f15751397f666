-- rows of a basis, and the columns of their slots
use Rattle.std.specs.Prelude.{ℕ, ℤ, ◌≡◌, ◌<◌, ◌<ℤ◌, List, [], pos, get_or, length, slice_index}
use Rattle.module_prices.specs.declared.cheapest.UnitPair.{UnitPair}
use Rattle.plan_terms.specs.Terms.{MasterColumn, Metric, Link, CutLine}
use Rattle.simplex_law.specs.Terms.{ColumnOf, unit_vector}
use Rattle.master_law.specs.Terms.{cut_entry, cut_gain, master_slack}
use Rattle.master_bound.specs.Answers.{cut_at}
use Rattle.length_master.{specs.declared.slot.Slot.Slot, specs.declared.slot.Slot.TheVariants.{Slack, Cut}, specs.declared.row.KeptRow.KeptRow}

-- a row of the list; past its end, one without numbers
abbrev pub row_at : List KeptRow → ℕ → KeptRow
row_at rows i = get_or rows i (record { slot = Slack 0; nums = []; den = pos 0; value = pos 0; product = pos 0 })

-- what a slot takes of the rows over lengths
abbrev pub slot_lengths : List CutLine → Slot → ℕ → ℤ
slot_lengths cuts (Slack e) k = unit_vector e k
slot_lengths cuts (Cut j) k = pos (slice_index (cut_at cuts j).lengths k)

-- what a slot takes of the rows of the master program
abbrev pub slot_entry : List UnitPair → List CutLine → Slot → ℕ → ℤ
slot_entry pairs cuts (Slack e) k = unit_vector e k
slot_entry pairs cuts (Cut j) k = cut_entry pairs (cut_at cuts j) k

-- what a slot gains
abbrev pub slot_gain : List Link → List CutLine → Slot → ℤ
slot_gain links cuts (Slack e) = pos 0
slot_gain links cuts (Cut j) = cut_gain links (cut_at cuts j)

-- the name of a slot's column
abbrev pub slot_name : List CutLine → Slot → MasterColumn
slot_name cuts (Slack e) = master_slack e
slot_name cuts (Cut j) = Metric (cut_at cuts j).state (cut_at cuts j).lengths

-- the column of a slot
abbrev pub slot_column : List Link → List UnitPair → List CutLine → Slot → ColumnOf MasterColumn
slot_column links pairs cuts slot = record { name = slot_name cuts slot; gain = slot_gain links cuts slot; entry = slot_entry pairs cuts slot }

-- a slot is that of a link, or a cut of the list
abbrev pub IsSlotInside : ℕ → ℕ → Slot → Type 0
IsSlotInside links cuts (Slack e) = e < links
IsSlotInside links cuts (Cut j) = j < cuts

-- a row with a number for each link over a positive denominator, of a slot that is there
pub record IsPlacedRow (links cuts : ℕ) (row : KeptRow) : Type 0 where
  pub inside : IsSlotInside links cuts row.slot
  pub count : length row.nums ≡ links
  pub positive : pos 0 <ℤ row.den

-- the first n rows are placed, each with as many numbers as there are rows
abbrev pub ArePlacedRows : ℕ → List KeptRow → ℕ → Type 0
ArePlacedRows cuts rows n = (i : ℕ) → i < n → IsPlacedRow (length rows) cuts (row_at rows i)
