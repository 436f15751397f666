-- the words of cells
use Rattle.std.specs.Prelude.{ℕ, ◌/◌, ◌%◌, ◌++◌, List, [], ◌∷◌, cond, codes, decimal, flat_map, nat_eq}

-- a number in per cent
abbrev pub per_cent : ℕ → List ℕ
per_cent n = decimal n ++ codes " %"

-- a number of tenths of a per cent
abbrev pub tenths_per_cent : ℕ → List ℕ
tenths_per_cent n = decimal (n / 10) ++ codes "." ++ decimal (n % 10) ++ codes " %"

-- a number, and the word for that many things
abbrev pub counted : ℕ → List ℕ → List ℕ → List ℕ
counted n one more = decimal n ++ codes " " ++ cond (nat_eq n 1) one more

-- words one after another, with a text between each two; a dash where there are none
abbrev pub joined_words : List ℕ → List (List ℕ) → List ℕ
joined_words between [] = codes "-"
joined_words between (w ∷ ws) = w ++ flat_map (λ v. between ++ v) ws
