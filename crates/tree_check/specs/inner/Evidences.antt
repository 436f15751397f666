-- the parts of route evidence that are in form whatever its capacities
use Rattle.std.specs.Prelude.{◌≡◌, ◌+◌, ◌<◌, ◌≤◌, List, All, length}
use Rattle.plan_terms.specs.Terms.{Case, RouteColumn, StateId, WideKind}
use Rattle.plan_report.specs.Terms.{IsKindInForm, IsRouteColumnInForm}

-- a basis of a routing program: a column in form for each of its rows
abbrev pub IsBasisInForm : Case → List RouteColumn → Type 0
IsBasisInForm p basis = (length basis ≡ length p.links + length p.demands) × All (IsRouteColumnInForm p.links p.demands) basis

-- a listed state with a basis of its routing program, and something of it that is too wide
pub record IsProgramInForm (p : Case) (state : StateId) (basis : List RouteColumn) (kind : WideKind RouteColumn) : Type 0 where
  pub state_listed : state.0 ≤ length p.listed
  pub basis_in_form : IsBasisInForm p basis
  pub wide : IsKindInForm (IsRouteColumnInForm p.links p.demands) ⊥ (λ e. e.0 < length p.links) (length p.links + length p.demands) kind
