-- the rows of a box's program, and the amounts that their prices are
use Rattle.std.specs.Prelude.{◌≡◌, ◌≢◌, ℕ, ◌<◌, ◌⊎◌, List, All, AllPairs, Contains}
use Rattle.plan_terms.specs.Terms.{Link}
use Rattle.tree_check.{specs.Boxes.span_at, specs.declared.boxes.Span.Span}
use Rattle.box_program.{specs.Solutions.{IsFree, LiesIn}, specs.declared.shape.ModuleRow.ModuleRow, specs.declared.solution.Amount.Amount}

-- a row is that of a module of several counts, with its span
pub record IsRowOf (links : List Link) (box : List (List Span)) (r : ModuleRow) : Type 0 where
  pub free : IsFree links box r.link r.module
  pub span : r.span ≡ span_at box r.link r.module

-- module m of link e comes before module n of link k
abbrev pub IsBefore : ℕ → ℕ → ℕ → ℕ → Type 0
IsBefore k n e m = (e < k) ⊎ ((e ≡ k) × (m < n))

-- a row of module m of link e is among them
abbrev pub HasRow : List ModuleRow → ℕ → ℕ → Type 0
HasRow rows e m = (r : ModuleRow) × Contains rows r × (r.link ≡ e) × (r.module ≡ m)

-- two rows are of different modules
abbrev pub AreRowsApart : ModuleRow → ModuleRow → Type 0
AreRowsApart a b = (a.link ≢ b.link) ⊎ (a.module ≢ b.module)

-- rows of the modules of several counts before module n of link k
pub record AreRowsBefore (links : List Link) (box : List (List Span)) (k n : ℕ) (rows : List ModuleRow) : Type 0 where
  pub each : All (IsRowOf links box) rows
  pub before : All (λ r. IsBefore k n r.link r.module) rows
  pub once : AllPairs AreRowsApart rows
  pub all : (e m : ℕ) → IsBefore k n e m → IsFree links box e m → HasRow rows e m

-- rows of all modules of several counts
pub record AreRowsOf (links : List Link) (box : List (List Span)) (rows : List ModuleRow) : Type 0 where
  pub each : All (IsRowOf links box) rows
  pub once : AllPairs AreRowsApart rows
  pub all : (e m : ℕ) → IsFree links box e m → HasRow rows e m

-- an amount over a denominator of the module of a row
pub record IsAmountAt (den : ℕ) (r : ModuleRow) (a : Amount) : Type 0 where
  pub same_link : a.link ≡ r.link
  pub same_module : a.module ≡ r.module
  pub part : a.part < den
  pub lies : LiesIn r.span a
