-- what the functions of a run answer to each other
use Rattle.std.specs.Prelude.{ℕ, List, [], ◌∷◌, ◌++◌, codes, decimal}

-- the planner's line of a demand of this name that is separated where nothing fails
abbrev pub apart_line : List ℕ → List ℕ
apart_line name = codes "not survivable: state " ++ decimal 0 ++ codes " none" ++ codes " demand " ++ name ++ 10 ∷ []
