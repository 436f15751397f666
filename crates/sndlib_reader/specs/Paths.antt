-- the section of admissible paths, of which nothing is kept
use Rattle.std.specs.Prelude.{◌≡◌, ℕ, ◌≤◌, ◌⊎◌, List, [], ◌∷◌, ◌++◌, length, IsTrue, codes}
use Rattle.net_core.{specs.Terms.is_named, specs.Limits.name_bytes}
use Rattle.text_kit.specs.Terms.{section, Item, Verbatim, Opening, Closing, AreSpelled}

-- a name of at most 255 bytes
abbrev pub IsShortName : List Item → Type 0
IsShortName items = (w : List ℕ) × (length w ≤ name_bytes) × (items ≡ Verbatim w ∷ [])

-- such a name, which is one of these
abbrev pub IsKnownName : List (List ℕ) → List Item → Type 0
IsKnownName names items = (w : List ℕ) × ((length w ≤ name_bytes) × IsTrue (is_named (λ n. n) w names)) × (items ≡ Verbatim w ∷ [])

-- things of a sort, one after another
abbrev pub AreMany : (List Item → Type 0) → List Item → Type 0
AreMany Is items = (xs : List (Unit {0})) × AreSpelled (λ x. Is) xs items

-- one thing of a sort or more, between parentheses
abbrev pub AreSome : (List Item → Type 0) → List Item → Type 0
AreSome Is items = (first more : List Item) × Is first × AreMany Is more × (items ≡ Opening ∷ (first ++ (more ++ Closing ∷ [])))

-- a path: a name, and the names of its links
abbrev pub IsNamedPath : List (List ℕ) → List Item → Type 0
IsNamedPath links items = (name inside : List Item) × IsShortName name × AreSome (IsKnownName links) inside × (items ≡ name ++ inside)

-- a line: the name of a demand, and its paths
abbrev pub IsPathLine : List (List ℕ) → List (List ℕ) → List Item → Type 0
IsPathLine links demands items = (name inside : List Item) × IsKnownName demands name × AreSome (IsNamedPath links) inside × (items ≡ name ++ inside)

-- the section with any lines, or nothing; links and demands by their names
abbrev pub ArePaths : List (List ℕ) → List (List ℕ) → List Item → Type 0
ArePaths links demands items = (items ≡ [])
    ⊎ ((lines : List Item) × AreMany (IsPathLine links demands) lines × (items ≡ section (codes "ADMISSIBLE_PATHS") lines))
