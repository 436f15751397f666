-- what comes of a column that enters
use Rattle.std.specs.Prelude.{ℕ, ℤ, List, length, get_or, ◌≡◌, ◌<◌, ◌+◌, ◌⊎◌}
use Rattle.plan_terms.specs.Terms.{RouteColumn, WideKind, Number, Row as RowOf, Product, Sum, Common, Value, Length}
use Rattle.simplex_law.specs.Terms.{HoldsRow, HoldsProduct, HoldsCommon, ColumnOf, put}
use Rattle.key_rows.{specs.declared.key_row.WideKey.WideKey, specs.declared.key_row.WideKey.TheVariants.{Common as KeyCommon, Row as KeyRow}, specs.declared.keyed.Keyed.Keyed}
use Rattle.key_paths.{specs.inner.Held.{AreColumnNames, IsHeld, IsEntering, IsPriced}, specs.declared.turn_rows.WideTurn.WideTurn, specs.declared.turn_rows.WideTurn.TheVariants.{Prices, Row as RowAt}, specs.declared.turns.Turn.Turn, specs.declared.turns.Turn.TheVariants.{Again, Unbounded, Wide}}

-- what is too wide, by its place in the basis
abbrev pub wide_place : Keyed → WideTurn → WideKind RouteColumn
wide_place b Prices = RowOf (length b.names)
wide_place b (RowAt i) = RowOf (get_or b.places i 0)

-- what is too wide of the row of demand d's key
abbrev pub wide_spread : Keyed → ℕ → WideKey → WideKind RouteColumn
wide_spread b d KeyCommon = Common
wide_spread b d KeyRow = RowOf (get_or b.places (length b.rows + d) 0)

-- the place of the row with this number among the products: that of a row of a link, or the objective row
abbrev pub IsProductPlace : List ℕ → ℕ → ℕ → ℕ → Type 0
IsProductPlace places links k place = ((k < links) × (place ≡ get_or places k 0)) ⊎ ((k ≡ links) × (place ≡ length places))

module _ (links demands : ℕ) (c : ColumnOf RouteColumn) where
  -- a kind holds of a basis, in which c enters
  abbrev pub HoldsWide : (ℕ → ColumnOf RouteColumn) → WideKind RouteColumn → Type 0
  HoldsWide basis (RowOf i) = HoldsRow (links + demands) basis i
  HoldsWide basis (Product i name) = HoldsProduct (links + demands) (λ x. x ≡ c) basis i name
  HoldsWide basis Common = HoldsCommon (links + demands) basis
  HoldsWide basis (Number name) = ⊥
  HoldsWide basis (Sum i) = ⊥
  HoldsWide basis Value = ⊥
  HoldsWide basis (Length link) = ⊥

  -- and the basis is that of these names
  pub record IsWideBasis (basis : ℕ → ColumnOf RouteColumn) (names : List RouteColumn) (kind : WideKind RouteColumn) : Type 0 where
    pub named : AreColumnNames links demands basis names
    pub holds : HoldsWide basis kind

  -- where c enters for the column of place p: the next basis is held, or a kind holds of it or of the basis before
  abbrev pub ComesOf : (ℕ → ℤ) → (ℕ → ColumnOf RouteColumn) → ℕ → Turn → Keyed → Type 0
  ComesOf bound basis p Again b = (place : ℕ → ℕ) × (role : ℕ → ℕ) × IsHeld links demands bound (put basis p c) place role b
  ComesOf bound basis p (Wide kind) b = IsWideBasis basis b.names kind ⊎ IsWideBasis (put basis p c) b.names kind
  ComesOf bound basis p Unbounded b = ⊥

-- a column of this name and cost that enters for that of role r leaves the turn, and a basis as the code then holds it
abbrev pub TurnsAt : ℕ → ℕ → Keyed → RouteColumn → ℤ → ℕ → Turn → Keyed → Type 0
TurnsAt links demands b name x r turn next = (bound : ℕ → ℤ) (basis : ℕ → ColumnOf RouteColumn) (place role : ℕ → ℕ) (c : ColumnOf RouteColumn)
    → IsEntering links demands bound basis place role b name c r → IsPriced links demands basis place b c x
    → ComesOf links demands c bound basis (place r) turn next
