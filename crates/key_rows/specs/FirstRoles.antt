-- the first of some roles by the ratio test, whatever rows of the inverse are taken for them
use Rattle.std.specs.Prelude.{ℕ, ℤ, List, Option, Some, None, length, pos, ◌≡◌, ◌<◌, ◌≤◌, ◌+◌, ◌<ℤ◌, ◌≤ℤ◌}
use Rattle.checked_fraction.specs.Terms.{num}
use Rattle.net_core.specs.declared.columns.RouteColumn.{RouteColumn}
use Rattle.simplex_law.specs.Terms.{IsInverseRow, ColumnOf, dot, IsRatioLe}
use Rattle.simplex_core.specs.Terms.{nums_at}
use Rattle.key_law.specs.Terms.{left_column}
use Rattle.key_rows.{specs.Bases.{IsColumnNamed, IsKeyed}, specs.KeyRows.{AreWeights, amounts, left_over_rows}, specs.declared.keyed.Keyed.Keyed}

module _ (m : ℕ) (bound : ℕ → ℤ) (basis : ℕ → ColumnOf RouteColumn) (place : ℕ → ℕ) (a : ℕ → ℤ) where
  -- role r limits the column: its row has a positive product with it
  abbrev pub HasStep : ℕ → Type 0
  HasStep r = (u : ℕ → ℤ) × (d : ℤ) × IsInverseRow m basis (place r) u d × (pos 0 <ℤ dot m u a)

  -- role r doesn't limit it
  abbrev pub LimitsNothing : ℕ → Type 0
  LimitsNothing r = (u : ℕ → ℤ) (d : ℤ) → IsInverseRow m basis (place r) u d → pos 0 <ℤ dot m u a → ⊥

  -- where both limit it, role r comes no later than role s
  abbrev pub IsNoLaterRole : ℕ → ℕ → Type 0
  IsNoLaterRole r s = (u v : ℕ → ℤ) (d e : ℤ) → IsInverseRow m basis (place r) u d → IsInverseRow m basis (place s) v e → pos 0 <ℤ dot m u a
      → pos 0 <ℤ dot m v a → IsRatioLe m bound a u v

  -- the first of these roles that limits the column, if one does
  abbrev pub IsFirstRole : (ℕ → Type 0) → Option ℕ → Type 0
  IsFirstRole these None = (r : ℕ) → r < m → these r → LimitsNothing r
  IsFirstRole these (Some r) = (r < m) × HasStep r × ((s : ℕ) → s < m → these s → IsNoLaterRole r s)

-- a column of this name may enter a basis that is held by its keys; its products with the rows are those that the basis holds
pub record IsAsked (bound : ℕ → ℤ) (basis : ℕ → ColumnOf RouteColumn) (place role : ℕ → ℕ) (b : Keyed) (name : RouteColumn)
    (c : ColumnOf RouteColumn) : Type 0 where
  pub keyed : IsKeyed (length b.rows) (length b.duals) bound basis place role b
  pub named : IsColumnNamed (length b.rows) (length b.duals) name c
  pub products : (i : ℕ) → i < length b.rows
      → num b.products i ≡ dot (length b.rows) (nums_at b.rows i) (left_column (length b.rows) (length b.duals) basis place c.entry)

-- whatever the basis, this is the first of these roles
abbrev pub IsFirstOfRoles : Keyed → RouteColumn → (ℕ → Type 0) → Option ℕ → Type 0
IsFirstOfRoles b name these o = (bound : ℕ → ℤ) (basis : ℕ → ColumnOf RouteColumn) (place role : ℕ → ℕ) (c : ColumnOf RouteColumn)
    → IsAsked bound basis place role b name c
    → IsFirstRole (length b.rows + length b.duals) bound basis place c.entry these o

-- the rows of each demand, and each part of them, take no more than the demand's bound
abbrev pub LeaveSomething : Keyed → Type 0
LeaveSomething b = (d : ℕ) (weights : List ℤ) (all : ℤ) (n : ℕ) → d < length b.duals → AreWeights b.rows b.owners weights d all → n ≤ length b.rows
    → pos 0 ≤ℤ left_over_rows b.owners weights d all (num b.bounds (length b.rows + d)) (amounts b.values) n
