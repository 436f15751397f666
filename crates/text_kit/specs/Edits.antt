-- edits of demands as items of a text, and items between parentheses
use Rattle.std.specs.Prelude.{ℕ, ◌≤◌, ◌<◌, ◌^◌, List, [], ◌∷◌, ◌++◌, length, codes}
use Rattle.net_core.{specs.declared.journal.Edit.Edit, specs.declared.journal.Edit.TheVariants.{Set, Add, Drop}, specs.declared.places.Places.Places, specs.Limits.name_bytes}
use Rattle.text_kit.specs.Items.{Item, Verbatim, Money, Opening, Closing}

-- items between parentheses
abbrev pub enclosed : List Item → List Item
enclosed items = Opening ∷ (items ++ Closing ∷ [])

-- a word, and items between parentheses
abbrev pub section : List ℕ → List Item → List Item
section w items = Verbatim w ∷ enclosed items

-- the names of two nodes between parentheses
abbrev pub ends_items : List ℕ → List ℕ → List Item
ends_items a b = enclosed (Verbatim a ∷ Verbatim b ∷ [])

-- an edit: its word, its name, the two nodes of a new demand between parentheses, and its need as an amount with these places
abbrev pub edit_items : Places → Edit → List Item
edit_items p (Set name need) = Verbatim (codes "set") ∷ Verbatim name ∷ Money p need ∷ []
edit_items p (Add name from to need) = Verbatim (codes "add") ∷ Verbatim name ∷ ends_items from to ++ Money p need ∷ []
edit_items p (Drop name) = Verbatim (codes "drop") ∷ Verbatim name ∷ []

-- names have at most 255 bytes, and a need is below 2^40 units of the network
abbrev pub IsEditInForm : Edit → Type 0
IsEditInForm (Set name need) = (length name ≤ name_bytes) × (need < 2 ^ 40)
IsEditInForm (Add name from to need) = (length name ≤ name_bytes) × (length from ≤ name_bytes) × (length to ≤ name_bytes) × (need < 2 ^ 40)
IsEditInForm (Drop name) = length name ≤ name_bytes
