-- Histories and the places in them.
use Rattle.std.specs.Prelude.{◌≡◌, ℕ, ◌+◌, Bool, true, cond, nat_lt, nat_le, ◌&&◌, List, [], ◌∷◌, ◌++◌, length}

-- ys begins with xs
abbrev pub IsPrefix : {I : Type 0} → List I → List I → Type 0
IsPrefix {I} xs ys = (rest : List I) × (xs ++ rest ≡ ys)

-- the longer of two lists
abbrev pub longer : {I : Type 0} → List I → List I → List I
longer xs ys = cond (nat_lt (length xs) (length ys)) ys xs

-- the places ascend, from `low` on, and stay below `high`
abbrev pub are_places : ℕ → ℕ → List ℕ → Bool
are_places low high [] = true
are_places low high (p ∷ ps) = nat_le low p && (nat_lt p high && are_places (p + 1) high ps)

-- a place is put among ascending ones
abbrev pub with_place : ℕ → List ℕ → List ℕ
with_place p [] = p ∷ []
with_place p (q ∷ qs) = cond (nat_lt p q) (p ∷ q ∷ qs) (q ∷ with_place p qs)

-- two lists of ascending places, made one
abbrev pub merged : List ℕ → List ℕ → List ℕ
merged ps [] = ps
merged ps (q ∷ qs) = with_place q (merged ps qs)
