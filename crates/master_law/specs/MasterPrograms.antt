-- the program that finds the best certificate of some cuts: the greatest raw value at which no unit's price exceeds its cost
use Rattle.std.specs.Prelude.{◌≡◌, ℕ, ℤ, ◌*◌, ◌<◌, ◌-ℤ◌, List, [], Contains, pos, length, map, slice_index}
use Rattle.module_prices.specs.declared.cheapest.UnitPair.{UnitPair}
use Rattle.plan_terms.specs.Terms.{MasterColumn, Metric, Link, CutLine, fixed_along}
use Rattle.net_core.specs.declared.columns.MasterColumn.TheVariants.{LinkSlack}
use Rattle.simplex_law.specs.Terms.{ColumnOf, IsProgramColumn}

-- two cuts have the same state and lengths
abbrev pub IsSameCut : CutLine → CutLine → Type 0
IsSameCut a b = (a.state ≡ b.state) × (a.lengths ≡ b.lengths)

-- the capacity of each link's unit pair
abbrev pub unit_capacities : List UnitPair → List ℕ
unit_capacities pairs = map (λ p. p.capacity) pairs

-- the cost of each link's unit pair
abbrev pub unit_costs : List UnitPair → List ℕ
unit_costs pairs = map (λ p. p.cost) pairs

-- the bounds: what a unit of each link costs
abbrev pub master_bound : List UnitPair → ℕ → ℤ
master_bound pairs e = pos (slice_index (unit_costs pairs) e)

-- the slacks: what each link's price leaves of the cost
abbrev pub master_slack : ℕ → MasterColumn
master_slack e = LinkSlack (record { 0 = e })

-- what a cut gains: its right side, less what the pre-installed capacities give along its lengths
abbrev pub cut_gain : List Link → CutLine → ℤ
cut_gain links cut = pos cut.right -ℤ pos (fixed_along cut.lengths links)

-- what a cut takes of each link: its length times the unit's capacity
abbrev pub cut_entry : List UnitPair → CutLine → ℕ → ℤ
cut_entry pairs cut e = pos (slice_index cut.lengths e * slice_index (unit_capacities pairs) e)

-- the column of a cut of the list
pub record IsCutColumn (links : List Link) (pairs : List UnitPair) (cuts : List CutLine) (c : ColumnOf MasterColumn) : Type 0 where
  pub cut : CutLine
  pub listed : Contains cuts cut
  pub named : c.name ≡ Metric cut.state cut.lengths
  pub gain : c.gain ≡ cut_gain links cut
  pub entry : (e : ℕ) → e < length links → c.entry e ≡ cut_entry pairs cut e

-- the columns: the cuts of the list, and the slacks, in a row for each link
abbrev pub IsMasterColumn : List Link → List UnitPair → List CutLine → ColumnOf MasterColumn → Type 0
IsMasterColumn links pairs cuts = IsProgramColumn (length links) master_slack (IsCutColumn links pairs cuts)

-- the lengths of a column; a slack has none
abbrev pub column_lengths : MasterColumn → List ℕ
column_lengths (LinkSlack link) = []
column_lengths (Metric state lengths) = lengths

-- what the pre-installed capacities give along a column
abbrev pub column_given : List Link → MasterColumn → ℕ
column_given links name = fixed_along (column_lengths name) links
