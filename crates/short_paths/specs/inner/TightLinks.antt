-- ways that take at each node the first link that leads on along a shortest path
use Rattle.std.specs.Prelude.{◌≡◌, ◌≢◌, ℕ, ◌+◌, ◌<◌, ◌≤◌, List, [], ◌∷◌, length, slice_index, slice_index_or}
use Rattle.plan_terms.specs.Terms.{LinkId}
use Rattle.short_paths.specs.inner.Tables.{IsTable}

-- link e leads from x to y along a shortest path to the target, to which `back` has the length from each node
pub record IsTightLink (joins : ℕ → ℕ → ℕ → Type 0) (lengths back : List ℕ) (x e y : ℕ) : Type 0 where
  pub joined : joins e x y
  pub exact : slice_index back x ≡ slice_index lengths e + slice_index back y

-- the first such link
pub record IsFirstTight (joins : ℕ → ℕ → ℕ → Type 0) (lengths back : List ℕ) (x e y : ℕ) : Type 0 where
  pub tight : IsTightLink joins lengths back x e y
  pub first : (f z : ℕ) → IsTightLink joins lengths back x f z → e ≤ f

-- at each node in turn the first such link, from a to b
abbrev pub Follows : (ℕ → ℕ → ℕ → Type 0) → List ℕ → List ℕ → ℕ → ℕ → List LinkId → Type 0
Follows joins lengths back b a [] = a ≡ b
Follows joins lengths back b a (e ∷ es) = (y : ℕ) × IsFirstTight joins lengths back a e.0 y × Follows joins lengths back b y es

-- Each link has a length. From each node that is found, but from the target b itself, a link leads on.
pub record LeadsOn (joins : ℕ → ℕ → ℕ → Type 0) (lengths : List ℕ) (far b : ℕ) (back : List ℕ) : Type 0 where
  pub long : (e x y : ℕ) → joins e x y → 0 < slice_index lengths e
  pub goes : (x : ℕ) → x < length back → slice_index back x < far → x ≢ b → ((e y : ℕ) → IsTightLink joins lengths back x e y → ⊥) → ⊥

-- one table for each of n nodes, with the lengths from it to each
pub record AreTables (joins : ℕ → ℕ → ℕ → Type 0) (lengths : List ℕ) (far n : ℕ) (rows : List (List ℕ)) : Type 0 where
  pub count : length rows ≡ n
  pub sizes : (t : ℕ) → t < n → length (slice_index_or rows t []) ≡ n
  pub tables : (t : ℕ) → t < n → IsTable joins lengths far t (slice_index_or rows t [])
