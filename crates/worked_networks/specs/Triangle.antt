-- the triangle
use Rattle.std.specs.Prelude.{ℕ, List, [], ◌∷◌, codes}
use Rattle.net_core.{specs.declared.network.Link.Link, specs.declared.network.Module.Module}

-- a module of 10.00 for 5.00
abbrev pub ten : List Module
ten = record { capacity = 10000; cost = 5000 } ∷ []

abbrev pub triangle_link : List ℕ → ℕ → ℕ → ℕ → Link
triangle_link name a b fixed = record { name = name; a = record { 0 = a }; b = record { 0 = b }; fixed = fixed; setup = 0; modules = ten }

-- AB, BC and AC, each with the same pre-installed capacity
abbrev pub triangle_links : ℕ → List Link
triangle_links fixed = triangle_link (codes "AB") 0 1 fixed ∷ triangle_link (codes "BC") 1 2 fixed ∷ triangle_link (codes "AC") 0 2 fixed ∷ []
