-- cuts whose numbers are below 2 ^ 62
use Rattle.std.specs.Prelude.{ℕ, ◌*◌, ◌<◌, ◌≤◌, ◌^◌, ◌⊎◌, List, All, Option, None, Some, length, slice_index, slice_get, ◌≡◌}
use Rattle.checked_fraction.specs.Terms.{IsNarrow}
use Rattle.module_prices.specs.declared.cheapest.UnitPair.{UnitPair}
use Rattle.plan_terms.specs.Terms.{Link, CutLine}
use Rattle.simplex_law.specs.Terms.{IsWide}
use Rattle.master_law.specs.Terms.{cut_gain, unit_capacities}

-- what lengths take of the row of link e
abbrev pub length_entry : List UnitPair → List ℕ → ℕ → ℕ
length_entry pairs lengths e = slice_index lengths e * slice_index (unit_capacities pairs) e

-- each entry of lengths is below 2 ^ 62
abbrev pub HaveNarrowEntries : List UnitPair → List ℕ → Type 0
HaveNarrowEntries pairs lengths = (e : ℕ) → e < length lengths → length_entry pairs lengths e < 2 ^ 62

-- an entry of lengths is not
abbrev pub HaveWideEntry : List UnitPair → List ℕ → Type 0
HaveWideEntry pairs lengths = (e : ℕ) × (e < length lengths) × (2 ^ 62 ≤ length_entry pairs lengths e)

-- right side, gain and entries of a cut are below 2 ^ 62
pub record IsNarrowCut (links : List Link) (pairs : List UnitPair) (cut : CutLine) : Type 0 where
  pub right : cut.right < 2 ^ 62
  pub gain : IsNarrow (cut_gain links cut)
  pub entries : HaveNarrowEntries pairs cut.lengths

-- one of them is not
abbrev pub IsWideCut : List Link → List UnitPair → CutLine → Type 0
IsWideCut links pairs cut = (2 ^ 62 ≤ cut.right) ⊎ IsWide (cut_gain links cut) ⊎ HaveWideEntry pairs cut.lengths

-- all cuts are narrow, or this one is the first that isn't
abbrev pub FindsWideCut : List Link → List UnitPair → List CutLine → Option ℕ → Type 0
FindsWideCut links pairs cuts None = All (IsNarrowCut links pairs) cuts
FindsWideCut links pairs cuts (Some k) = (cut : CutLine) × (slice_get cuts k ≡ Some cut) × IsWideCut links pairs cut
