-- tests that are made in order, each with the fault that it finds
use Rattle.std.{specs.Prelude.{ℕ, List, [], ◌∷◌, Bool, Option, None, Some, cond, ◌==◌, nat_le, ◌^◌}, specs.List.list_any, specs.Cmp.Lexicographic.pointwise}
use Rattle.net_core.specs.Limits.{need_power}

-- the fault of the first test that finds one
abbrev pub first_fault : {F : Type 0} → List (Bool × F) → Option F
first_fault [] = None
first_fault (t ∷ ts) = cond t.0 (Some t.1) (first_fault ts)

-- two names have the same bytes
abbrev pub are_same : List ℕ → List ℕ → Bool
are_same a b = pointwise ◌==◌ a b

-- one of these has the name
abbrev pub is_named : {X : Type 0} → (X → List ℕ) → List ℕ → List X → Bool
is_named name_of name xs = list_any (λ x. are_same (name_of x) name) xs

-- an amount or a cost of 2^40 units or more
abbrev pub is_large : ℕ → Bool
is_large n = nat_le (2 ^ need_power) n
