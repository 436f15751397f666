-- how many cells rows have
use Rattle.std.proofs.Common.{ℕ, ◌≤◌, List, [], ◌∷◌, length, map}
use Rattle.net_core.proofs.Library.{AllByRecursion}

-- rows of at most n cells
abbrev pub fits : ℕ → List (List ℕ) → Type 0
fits n row = length row ≤ n

pub each_fits : {X : Type 0} (f : X → List (List ℕ)) (n : ℕ) → ((x : X) → length (f x) ≤ n) → (xs : List X) → AllByRecursion (fits n) (map f xs)
each_fits f n one [] = tt
each_fits f n one (x ∷ xs) = (one x, each_fits f n one xs)
