-- a column that gains enters a basis that is held by its keys
use Rattle.std.specs.Prelude.{ℕ, ℤ, List, get_or, pos, ◌≡◌, ◌<◌, ◌+◌, ◌<ℤ◌, ◌⊎◌}
use Rattle.checked_fraction.specs.Terms.{num}
use Rattle.plan_terms.specs.Terms.{RouteColumn, WideKind, Row as RowOf, Product, Common}
use Rattle.simplex_law.specs.Terms.{ColumnOf, put, IsPick}
use Rattle.simplex_core.specs.Terms.{nums_at, den_at}
use Rattle.key_law.specs.Terms.{cost, full_prices, role_nums, AreKeyRows}
use Rattle.key_rows.{specs.Terms.{IsColumnNamed, LimitsNothing}, specs.declared.keyed.Keyed.Keyed, specs.declared.ratio_test.WideTest.WideTest, specs.declared.ratio_test.WideTest.TheVariants.{Common as TestCommon, Product as TestProduct, Row as TestRow}}
use Rattle.key_paths.{specs.inner.Gaining.cost_at, specs.inner.Held.{IsHeld, IsNameOf}, specs.inner.Outcomes.IsWideBasis, specs.declared.turns.Turn.Turn, specs.declared.turns.Turn.TheVariants.{Again, Unbounded, Wide}}

-- a basis with other products
abbrev pub with_products : Keyed → List ℤ → Keyed
with_products b products = record {
  names = b.names;
  places = b.places;
  owners = b.owners;
  rows = b.rows;
  prices = b.prices;
  duals = b.duals;
  bounds = b.bounds;
  rest = b.rest;
  values = b.values;
  products = products;
}

-- what is too wide of a key, by its place, when a column of this name enters
abbrev pub wide_kind : Keyed → RouteColumn → WideTest → WideKind RouteColumn
wide_kind b name TestCommon = Common
wide_kind b name (TestProduct role) = Product (get_or b.places role 0) name
wide_kind b name (TestRow role) = RowOf (get_or b.places role 0)

module _ (links demands : ℕ) (bound : ℕ → ℤ) (basis : ℕ → ColumnOf RouteColumn) (place role : ℕ → ℕ) (b : Keyed) where
  -- a column of this name that gains in a basis that is held
  pub record IsGainingIn (name : RouteColumn) (c : ColumnOf RouteColumn) : Type 0 where
    pub held : IsHeld links demands bound basis place role b
    pub named : IsColumnNamed links demands name c
    pub sound : IsNameOf links demands name
    pub priced : cost_at b name ≡ cost links demands basis place (num b.prices.nums) b.prices.den c
    pub gains : cost_at b name <ℤ pos 0

  -- column c enters for that of role r, which is first by the ratio test
  pub record IsPicked (c : ColumnOf RouteColumn) (r : ℕ) : Type 0 where
    pub inside : r < links + demands
    pub of_keys : ℕ → ℕ → ℤ
    pub of_den : ℕ → ℤ
    pub key_rows : AreKeyRows links demands basis place of_keys of_den
    pub pick : IsPick (links + demands) bound (λ j. role_nums links demands basis place (nums_at b.rows) (den_at b.rows) of_keys of_den (role j))
        (full_prices links demands basis place (num b.prices.nums) b.prices.den) b.prices.den c (place r)

  -- the next basis is held, or a kind holds of it or of the basis before, or no role limits the column
  abbrev pub Enters : ColumnOf RouteColumn → Turn → Keyed → Type 0
  Enters c Again new = (r : ℕ) × IsPicked c r × ((places roles : ℕ → ℕ) × IsHeld links demands bound (put basis (place r) c) places roles new)
  Enters c (Wide kind) new = IsWideBasis links demands c basis new.names kind
      ⊎ ((r : ℕ) × IsPicked c r × IsWideBasis links demands c (put basis (place r) c) new.names kind)
  Enters c Unbounded new = (r : ℕ) → r < links + demands → LimitsNothing (links + demands) bound basis place c.entry r

-- a column of this name gains in some basis that is so held
pub record HasGaining (links demands : ℕ) (b : Keyed) (name : RouteColumn) : Type 0 where
  pub bound : ℕ → ℤ
  pub basis : ℕ → ColumnOf RouteColumn
  pub place : ℕ → ℕ
  pub role : ℕ → ℕ
  pub column : ColumnOf RouteColumn
  pub gaining : IsGainingIn links demands bound basis place role b name column

-- what comes of a column of this name, in whatever basis it gains
abbrev pub EntersAs : ℕ → ℕ → Keyed → RouteColumn → Turn → Keyed → Type 0
EntersAs links demands b name turn new = (bound : ℕ → ℤ) (basis : ℕ → ColumnOf RouteColumn) (place role : ℕ → ℕ) (c : ColumnOf RouteColumn)
    → IsGainingIn links demands bound basis place role b name c → Enters links demands bound basis place role b c turn new
