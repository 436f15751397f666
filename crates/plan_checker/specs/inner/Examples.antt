-- parts of plans that tests check
use Rattle.std.specs.Prelude.{ℕ, List, [], ◌∷◌}
use Rattle.plan_terms.specs.Terms.{Demand}

-- 12.00 from A to C, and a need from A to B
abbrev pub two_demands : ℕ → List Demand
two_demands need =
    record { name = 65 ∷ []; from = record { 0 = 0 }; to = record { 0 = 2 }; need = 12000 }
    ∷ record { name = 66 ∷ []; from = record { 0 = 0 }; to = record { 0 = 1 }; need = need }
    ∷ []

-- no module on either of two links
abbrev pub no_modules : List (List ℕ)
no_modules = (0 ∷ []) ∷ (0 ∷ []) ∷ []
