-- the words of a link's modules
use Rattle.std.specs.Prelude.{ℕ, ◌++◌, List, [], ◌∷◌, cond, codes, decimal, nat_eq}
use Rattle.plan_terms.specs.Terms.{Module, Places}
use Rattle.text_kit.specs.Terms.{money_word}

-- how many modules of a kind there are and what one of them carries, where there are some
abbrev pub kind_words : Places → Module → ℕ → List (List ℕ)
kind_words places kind count = cond (nat_eq count 0) [] ((decimal count ++ codes " x " ++ money_word places kind.capacity) ∷ [])

-- the same of each kind
abbrev pub kinds_words : Places → List Module → List ℕ → List (List ℕ)
kinds_words places [] counts = []
kinds_words places (m ∷ ms) [] = []
kinds_words places (m ∷ ms) (n ∷ ns) = kind_words places m n ++ kinds_words places ms ns
