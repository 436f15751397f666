-- programs of three rows over columns in a list
use Rattle.std.{specs.Prelude.{ℕ, ℤ, List, [], ◌∷◌, pos, Some, cond, eqb, ◌≡◌, ◌≤ℤ◌}, specs.List.slice_get}
use Rattle.checked_fraction.specs.Terms.{IsNarrow}
use Rattle.simplex_law.specs.Terms.{ColumnOf}
use Rattle.simplex_core.{specs.Terms.column_from, specs.declared.columns.Entry.Entry, specs.declared.columns.Price.Price, specs.declared.columns.Price.TheVariants.{Gain, Optimal, NoMemory}}

-- a number of each of three rows
abbrev pub three : ℤ → ℤ → ℤ → ℕ → ℤ
three a b c k = cond (eqb 0 k) a (cond (eqb 1 k) b c)

-- an entry in each of three rows
abbrev pub entries_of : ℤ → ℤ → ℤ → List Entry
entries_of a b c = record { row = 0; value = a } ∷ record { row = 1; value = b } ∷ record { row = 2; value = c } ∷ []

-- a number that a packing program may have
abbrev pub IsPackingNumber : ℤ → Type 0
IsPackingNumber z = (pos 0 ≤ℤ z) × IsNarrow z

-- the column of some item, named by the item's place
abbrev pub IsListedColumn : {X N : Type 0} → (ℕ → N) → (X → ℤ) → (X → List Entry) → List X → ColumnOf N → Type 0
IsListedColumn name gain entries items c = (i : ℕ) × (x : _) × (slice_get items i ≡ Some x) × (c ≡ column_from (name i) (gain x) (entries x))

-- the column of this name, gain and entries, where there is memory for it
abbrev pub Copies : {N : Type 0} → N → ℤ → List Entry → Price N → Type 0
Copies name gain entries (Gain c) = (c.name ≡ name) × (c.gain ≡ gain) × (c.entries ≡ entries)
Copies name gain entries Optimal = ⊥
Copies name gain entries NoMemory = Unit {0}
