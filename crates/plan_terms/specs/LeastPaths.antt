-- the least of the shortest paths, by the numbers of its links
use Rattle.std.specs.Prelude.{◌≡◌, ℕ, ◌<◌, ◌≤◌, List, [], ◌∷◌, ◌⊎◌}
use Rattle.net_core.specs.declared.ids.LinkId.{LinkId}
use Rattle.plan_terms.specs.Paths.{IsPath, length_of}

-- xs comes before ys in lexicographic order, or is ys, or its beginning
abbrev pub IsLexLe : List LinkId → List LinkId → Type 0
IsLexLe [] ys = Unit {0}
IsLexLe (x ∷ xs) [] = ⊥
IsLexLe (x ∷ xs) (y ∷ ys) = (x.0 < y.0) ⊎ ((x.0 ≡ y.0) × IsLexLe xs ys)

-- a shortest path from a to b, and by the numbers of its links the first of the shortest
pub record IsLeastPath (joins : ℕ → ℕ → ℕ → Type 0) (lengths : List ℕ) (a b : ℕ) (es : List LinkId) : Type 0 where
  pub path : IsPath joins a b es
  pub shortest : (others : List LinkId) → IsPath joins a b others → length_of lengths es ≤ length_of lengths others
  pub least : (others : List LinkId) → IsPath joins a b others → length_of lengths others ≤ length_of lengths es → IsLexLe es others
