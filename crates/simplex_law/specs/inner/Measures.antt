-- a measure that falls where duals rise, so that a method whose duals rise in each turn ends
use Rattle.std.specs.Prelude.{ℕ, ℤ, zero, suc, pos, ◌<◌, ◌+◌, ◌-◌, ◌*◌, ◌/◌, ◌^◌, ◌<ℤ◌, ◌+ℤ◌, unsigned_abs}
use Rattle.checked_fraction.specs.Terms.{IsNarrow}
use Rattle.simplex_law.specs.inner.Lexicographic.{valued}

-- duals, and their denominator, are narrow
pub record AreNarrowDuals (m : ℕ) (duals : ℕ → ℤ) (den : ℤ) : Type 0 where
  pub positive : pos 0 <ℤ den
  pub narrow_den : IsNarrow den
  pub narrow : (k : ℕ) → k < m → IsNarrow (duals k)

-- for v over d between -edge and edge, with d at most the root of square: a number that is larger for a larger fraction
unfoldable pub digit : ℕ → ℕ → ℤ → ℕ → ℕ
digit edge square v d = (unsigned_abs (v +ℤ pos (edge * d)) * square) / d

-- n fractions over d as one number, which is larger where they come later in lexicographic order
unfoldable pub lex_number : ℕ → ℕ → ℕ → ℕ → (ℕ → ℤ) → ℕ → ℕ
lex_number base edge square zero v d = 0
lex_number base edge square (suc n) v d = digit edge square (v 0) d * base ^ n + lex_number base edge square n (λ k. v (suc k)) d

-- what is left above the duals of m rows and their value, none of which passes the edge
unfoldable pub left_below : ℕ → ℕ → (ℕ → ℤ) → (ℕ → ℤ) → ℤ → ℕ
left_below edge m bound duals den =
    (2 * edge * 2 ^ 124 + 1) ^ (m + 1) - lex_number (2 * edge * 2 ^ 124 + 1) edge (2 ^ 124) (m + 1) (valued m bound duals) (unsigned_abs den)

-- what is left above narrow duals and their value, with an edge that this value can't pass at narrow bounds
abbrev pub left_over : ℕ → (ℕ → ℤ) → (ℕ → ℤ) → ℤ → ℕ
left_over m = left_below ((m + 1) * 2 ^ 124) m
