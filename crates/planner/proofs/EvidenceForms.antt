-- evidence names columns and rows of its program alone, so it is in form
use Rattle.std.proofs.Common.{ℕ, ℤ, ◌^◌, ◌<◌, ◌≤◌, ⊎_elim, List, All, Contains, length, sym, subst, arith}
use Rattle.net_core.proofs.Library.{cases_lt, get_or_past, All-contains, get_or_from_slice_get, slice_get_within}
use Rattle.plan_terms.specs.Terms.{MasterColumn, RouteColumn, LinkSlack, DemandSlack, WideKind, Number, Row, Product, Sum, Common, Value, Length, Demand, StateId, Caps, CutLine, Places, Listed, Case, AreDemands, Graph, IsCut, HasShortLengths}
use Rattle.module_prices.specs.declared.cheapest.UnitPair.{UnitPair}
use Rattle.simplex_law.specs.Terms.{AreNames, IsFeasible, HoldsNumber, ColumnOf, IsSlack}
use Rattle.route_law.{specs.Terms.{HasWideLength, HoldsOfRoute, IsRouteEvidence, IsCarrying, IsRouteColumn, route_bound, route_rows, route_slack}, proofs.Lemmas.beside_each}
use Rattle.master_law.specs.Terms.{HasWideRight, HoldsOfMaster, IsMasterEvidence, IsCutColumn, IsMasterColumn, master_bound, master_slack}
use Rattle.plan_report.specs.Terms.{known_as, AreCapsInForm, AreLinkNumbers, IsKindInForm, IsMasterColumnInForm, IsMasterEvidenceInForm, IsRouteColumnInForm, IsRouteEvidenceInForm}
use Rattle.planner.proofs.InForm.{of_list, path_in_form}

-- what holds of the name of each column of a program holds of the names of a basis
module _ {N : Type 0} (rows : ℕ) (bound : ℕ → ℤ) (is_column : ColumnOf N → Type 0) (P : N → Type 0) (each : (c : ColumnOf N) → is_column c → P c.name) where
  names_have : (basis : ℕ → ColumnOf N) (names : List N) → AreNames rows basis names → IsFeasible rows bound is_column basis → All P names
  names_have basis names named feasible k d lt =
      let inside : k < rows = omega (arith, lt, named.count) in
      subst P (sym (get_or_from_slice_get names k (basis k).name d (named.each k inside))) (each (basis k) (feasible.columns k inside))

-- ---- routing programs

module _ (g : Graph) (demands : List Demand) (belong : AreDemands (length g.nodes) demands) where
  slack_in_form : (k : ℕ) → k < route_rows g demands → IsRouteColumnInForm g.links demands (route_slack g k)
  slack_in_form k inside = beside_each (IsRouteColumnInForm g.links demands) (length g.links) (λ e. LinkSlack (record { 0 = e })) (λ i. DemandSlack i) k (λ lt. lt) (λ ge. omega (arith, ge, inside))

  column_in_form : (c : ColumnOf RouteColumn) → IsRouteColumn g demands c → IsRouteColumnInForm g.links demands c.name
  column_in_form c is = ⊎_elim
      (λ (carry : IsCarrying g demands c). subst (IsRouteColumnInForm g.links demands) (sym carry.named)
      (slice_get_within demands carry.place carry.demand carry.at, path_in_form g carry.demand.from.0 carry.demand.to.0 (of_list g demands belong carry.place carry.demand carry.at).different carry.path carry.leads))
      (λ (slack : IsSlack (route_rows g demands) (route_slack g) c). subst (IsRouteColumnInForm g.links demands) (sym slack.named) (slack_in_form slack.row slack.inside))
      is

  wide_length : (caps : Caps) (basis : ℕ → ColumnOf RouteColumn) (e : ℕ) → HasWideLength g demands caps basis e → e < length g.links
  wide_length caps basis e h = ⊎_elim
      (λ lt. lt)
      (λ ge. absurd (omega (arith, h.wide, get_or_past h.lengths e 0 (omega (arith, ge, h.prices.count)))))
      (cases_lt e (length g.links))

  route_kind : (caps : Caps) (basis : ℕ → ColumnOf RouteColumn) (kind : WideKind RouteColumn) → HoldsOfRoute g demands caps basis kind
      → IsKindInForm (IsRouteColumnInForm g.links demands) ⊥ (λ e. e.0 < length g.links) (route_rows g demands) kind
  route_kind caps basis (Number name) h = ⊎_elim
      (λ slack. subst (IsRouteColumnInForm g.links demands) slack.2 (slack_in_form slack.0 slack.1))
      (λ column. subst (IsRouteColumnInForm g.links demands) column.2 (column_in_form column.0 column.1))
      h.1
  route_kind caps basis (Row i) h = h.2.place
  route_kind caps basis (Product i name) h = (h.3.place, subst (IsRouteColumnInForm g.links demands) h.5 (column_in_form h.2 h.4))
  route_kind caps basis (Sum i) h = h.2.place
  route_kind caps basis Common h = tt
  route_kind caps basis Value h = h
  route_kind caps basis (Length link) h = wide_length caps basis link.0 h

  pub route_evidence_form : (places : Places) (listed : List Listed) (state : StateId) (caps : Caps) (names : List RouteColumn) (kind : WideKind RouteColumn) → state.0 ≤ length listed → AreCapsInForm g.links caps
      → IsRouteEvidence g demands caps names kind → IsRouteEvidenceInForm (known_as places g.nodes g.links listed) demands state caps names kind
  route_evidence_form places listed state caps names kind inside form is = record {
    state_listed = inside;
    capacities = form;
    long = is.evidence.named.count;
    columns = names_have (route_rows g demands) (route_bound g demands caps) (IsRouteColumn g demands) (IsRouteColumnInForm g.links demands) column_in_form is.basis names is.evidence.named is.evidence.feasible;
    wide = route_kind caps is.basis kind is.evidence.holds;
  }

-- ---- master programs

module _ (p : Case) (pairs : List UnitPair) (cuts : List CutLine) (are : All (IsCut p) cuts) (short : All HasShortLengths cuts) where
  abbrev InForm : MasterColumn → Type 0
  InForm = IsMasterColumnInForm p.links p.listed

  cut_numbers : (cut : CutLine) → Contains cuts cut → (cut.state.0 ≤ length p.listed) × AreLinkNumbers p.links (2 ^ 32) cut.lengths
  cut_numbers cut inside =
      let is = All-contains (IsCut p) cuts cut are inside in
      (is.listed_state, record { long = is.kept.count; each = All-contains HasShortLengths cuts cut short inside })

  cut_column : (c : ColumnOf MasterColumn) → IsMasterColumn p.links pairs cuts c → InForm c.name
  cut_column c is = ⊎_elim
      (λ (listed : IsCutColumn p.links pairs cuts c). subst InForm (sym listed.named) (cut_numbers listed.cut listed.listed))
      (λ (slack : IsSlack (length p.links) master_slack c). subst InForm (sym slack.named) slack.inside)
      is

  wide_right : (name : MasterColumn) → HasWideRight cuts name → InForm name
  wide_right name wide = subst InForm wide.named (cut_numbers wide.cut wide.listed)

  number_form : (basis : ℕ → ColumnOf MasterColumn) (name : MasterColumn) → HoldsNumber (length p.links) (master_bound pairs) master_slack (IsMasterColumn p.links pairs cuts) basis name → InForm name
  number_form basis name h = ⊎_elim
      (λ slack. subst InForm slack.2 slack.1)
      (λ column. subst InForm column.2 (cut_column column.0 column.1))
      h.1

  master_kind : (basis : ℕ → ColumnOf MasterColumn) (kind : WideKind MasterColumn) → HoldsOfMaster p.links pairs cuts basis kind → IsKindInForm InForm (Unit {0}) (λ e. ⊥) (length p.links) kind
  master_kind basis (Number name) h = ⊎_elim (number_form basis name) (λ right. wide_right name right.1) h
  master_kind basis (Row i) h = h.2.place
  master_kind basis (Product i name) h = (h.3.place, subst InForm h.5 (cut_column h.2 h.4))
  master_kind basis (Sum i) h = h.2.place
  master_kind basis Common h = tt
  master_kind basis Value h = tt
  master_kind basis (Length link) h = h

  pub master_evidence_form : (names : List MasterColumn) (kind : WideKind MasterColumn) → IsMasterEvidence p.links pairs cuts names kind → IsMasterEvidenceInForm p.links p.listed names kind
  master_evidence_form names kind is = record {
    long = is.evidence.named.count;
    columns = names_have (length p.links) (master_bound pairs) (IsMasterColumn p.links pairs cuts) InForm cut_column is.basis names is.evidence.named is.evidence.feasible;
    wide = master_kind is.basis kind is.evidence.holds;
  }
