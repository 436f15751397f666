-- paths along links: which link joins which nodes is said by `joins`
use Rattle.std.{specs.Prelude.{◌≡◌, ◌≢◌, ℕ, ◌+◌, ◌≤◌, List, [], ◌∷◌, Option, None, Some, slice_index}, specs.List.AllByRecursion}
use Rattle.net_core.specs.declared.ids.LinkId.{LinkId}

-- the links lead from a to each of these nodes in turn
abbrev pub Leads : (ℕ → ℕ → ℕ → Type 0) → ℕ → List LinkId → List ℕ → Type 0
Leads joins a [] [] = Unit {0}
Leads joins a (e ∷ es) (c ∷ cs) = joins e.0 a c × Leads joins c es cs
Leads joins a [] (c ∷ cs) = ⊥
Leads joins a (e ∷ es) [] = ⊥

-- the last of the nodes, or a where there are none
abbrev pub last_node : ℕ → List ℕ → ℕ
last_node a [] = a
last_node a (c ∷ cs) = last_node c cs

-- no node appears twice
abbrev pub AreDifferent : List ℕ → Type 0
AreDifferent [] = Unit {0}
AreDifferent (x ∷ xs) = AllByRecursion (λ y. x ≢ y) xs × AreDifferent xs

-- a path from a to b: n links lead along n + 1 different nodes, the first a and the last b
abbrev pub IsPath : (ℕ → ℕ → ℕ → Type 0) → ℕ → ℕ → List LinkId → Type 0
IsPath joins a b es = (cs : List ℕ) × Leads joins a es cs × (last_node a cs ≡ b) × AreDifferent (a ∷ cs)

-- no path leads from a to b
abbrev pub AreApart : (ℕ → ℕ → ℕ → Type 0) → ℕ → ℕ → Type 0
AreApart joins a b = (es : List LinkId) → IsPath joins a b es → ⊥

-- the length of a list of links: the sum of the links' lengths
abbrev pub length_of : List ℕ → List LinkId → ℕ
length_of lengths [] = 0
length_of lengths (e ∷ es) = slice_index lengths e.0 + length_of lengths es

-- the distance: the least length over all paths from a to b, and none where there is no path
abbrev pub IsDistance : (ℕ → ℕ → ℕ → Type 0) → List ℕ → ℕ → ℕ → Option ℕ → Type 0
IsDistance joins lengths a b None = AreApart joins a b
IsDistance joins lengths a b (Some d) =
    ((es : List LinkId) × IsPath joins a b es × (length_of lengths es ≡ d))
    × ((es : List LinkId) → IsPath joins a b es → d ≤ length_of lengths es)
