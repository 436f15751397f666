-- evidence at the capacities of counts is in form: it names columns and rows of its program alone
use Rattle.std.proofs.Common.{◌≡◌, ℕ, ◌*◌, ◌^◌, ◌≤◌, ◌<◌, List, [], ◌∷◌, All, ⊎_elim, length, zip, ap, subst, sym, arith, slice_get, Some}
use Rattle.net_core.proofs.Library.{All-from_recursion, cases_lt, get_or_from_slice_get, get_or_past, recursion_from_All, slice_get_within, sum_by-cons, mul-le, AllByRecursion}
use Rattle.plan_swaps.{specs.Terms.{IsWideSomewhere, whole_caps}, proofs.Lemmas.path_found}
use Rattle.flow_router.specs.Answers.{IsEvidenceHere}
use Rattle.module_choice.proofs.Pairs.{capacities_long}
use Rattle.plan_report.specs.Terms.{AreCapsInForm, IsKindInForm, IsRouteColumnInForm, IsRouteEvidenceInForm, known_to}
use Rattle.plan_terms.specs.Terms.{AreCounts, AreDemands, Caps, Case, Common, Demand, DemandSlack, Evidence, Graph, IsDemand, IsLink, IsModule, Length, Link, LinkSlack, Master, Module, Number, Product, Route, RouteColumn, Row, StateId, Sum, Value, WideKind, capacities, graph_in, modules_capacity}
use Rattle.route_law.{proofs.Lemmas.beside_each, specs.Terms.{HasWideLength, HoldsOfRoute, IsCarrying, IsRouteColumn, IsRouteEvidence, route_bound, route_rows, route_slack}}
use Rattle.simplex_law.specs.Terms.{AreNames, ColumnOf, IsFeasible, IsSlack}
use Rattle.tree_check.specs.Proofs.{IsEvidenceAt}

-- ---- columns and rows

module _ (g : Graph) (demands : List Demand) (belong : AreDemands (length g.nodes) demands) where
  abbrev InForm : RouteColumn → Type 0
  InForm = IsRouteColumnInForm g.links demands

  demand_at : (k : ℕ) (d : Demand) → slice_get demands k ≡ Some d → IsDemand (length g.nodes) d
  demand_at k d at = subst (IsDemand (length g.nodes)) (get_or_from_slice_get demands k d d at) (belong.each k d (slice_get_within demands k d at))

  slack_form : (k : ℕ) → k < route_rows g demands → InForm (route_slack g k)
  slack_form k inside = beside_each InForm (length g.links) (λ e. LinkSlack (record { 0 = e })) (λ i. DemandSlack i) k (λ lt. lt) (λ ge. omega (arith, ge, inside))

  column_form : (c : ColumnOf RouteColumn) → IsRouteColumn g demands c → InForm c.name
  column_form c is = ⊎_elim
      (λ (carry : IsCarrying g demands c). subst InForm (sym carry.named)
      (slice_get_within demands carry.place carry.demand carry.at, path_found g carry.demand.from.0 carry.demand.to.0 (demand_at carry.place carry.demand carry.at).different carry.path carry.leads))
      (λ (slack : IsSlack (route_rows g demands) (route_slack g) c). subst InForm (sym slack.named) (slack_form slack.row slack.inside))
      is

  names_form : (caps : Caps) (basis : ℕ → ColumnOf RouteColumn) (names : List RouteColumn) → AreNames (route_rows g demands) basis names
      → IsFeasible (route_rows g demands) (route_bound g demands caps) (IsRouteColumn g demands) basis → All InForm names
  names_form caps basis names named feasible k d lt =
      let inside : k < route_rows g demands = omega (arith, lt, named.count) in
      subst InForm (sym (get_or_from_slice_get names k (basis k).name d (named.each k inside))) (column_form (basis k) (feasible.columns k inside))

  length_form : (caps : Caps) (basis : ℕ → ColumnOf RouteColumn) (e : ℕ) → HasWideLength g demands caps basis e → e < length g.links
  length_form caps basis e wide = ⊎_elim
      (λ lt. lt)
      (λ ge. absurd (omega (arith, wide.wide, get_or_past wide.lengths e 0 (omega (arith, ge, wide.prices.count)))))
      (cases_lt e (length g.links))

  kind_form : (caps : Caps) (basis : ℕ → ColumnOf RouteColumn) (kind : WideKind RouteColumn) → HoldsOfRoute g demands caps basis kind
      → IsKindInForm InForm ⊥ (λ e. e.0 < length g.links) (route_rows g demands) kind
  kind_form caps basis (Number name) holds = ⊎_elim
      (λ slack. subst InForm slack.2 (slack_form slack.0 slack.1))
      (λ column. subst InForm column.2 (column_form column.0 column.1))
      holds.1
  kind_form caps basis (Row i) holds = holds.2.place
  kind_form caps basis (Product i name) holds = (holds.3.place, subst InForm holds.5 (column_form holds.2 holds.4))
  kind_form caps basis (Sum i) holds = holds.2.place
  kind_form caps basis Common holds = tt
  kind_form caps basis Value holds = holds
  kind_form caps basis (Length link) holds = length_form caps basis link.0 holds

-- ---- capacities

modules_limit : (modules : List Module) (counts : List ℕ) → AllByRecursion IsModule modules → AllByRecursion (λ n. n < 2 ^ 64) counts
    → modules_capacity modules counts ≤ length modules * (2 ^ 40 * 2 ^ 64)
modules_limit [] counts sound low = omega arith
modules_limit (x ∷ ms) [] sound low = omega arith
modules_limit (x ∷ ms) (c ∷ cs) sound low =
    let capacity : x.capacity ≤ 2 ^ 40 = omega (arith, sound.0.capacity) in
    let count : c ≤ 2 ^ 64 = omega (arith, low.0) in
    omega (arith, modules_limit ms cs sound.1 low.1, mul-le x.capacity c (2 ^ 40) (2 ^ 64) capacity count, sum_by-cons (λ (p : Module × ℕ). p.0.capacity * p.1) (x, c) (zip ms cs))

caps_limit : (n : ℕ) (links : List Link) (counts : List (List ℕ)) → AllByRecursion (IsLink n) links → AllByRecursion (All (λ m. m < 2 ^ 64)) counts
    → AllByRecursion (λ m. m < 2 ^ 126) (capacities links counts)
caps_limit n [] counts sound low = tt
caps_limit n (l ∷ ls) [] sound low = tt
caps_limit n (l ∷ ls) (c ∷ cs) sound low =
    let modules = modules_limit l.modules c (recursion_from_All IsModule l.modules sound.0.each) (recursion_from_All (λ (m : ℕ). m < 2 ^ 64) c low.0) in
    let few : length l.modules * (2 ^ 40 * 2 ^ 64) ≤ 16 * (2 ^ 40 * 2 ^ 64) = omega (arith, sound.0.few) in
    (omega (arith, modules, few, sound.0.fixed), caps_limit n ls cs sound.1 low.1)

-- ---- evidence

module _ (p : Case) (links : All (IsLink (length p.nodes)) p.links) (demands : AreDemands (length p.nodes) p.demands) (counts : List (List ℕ)) (shape : AreCounts p.links counts)
    (low : All (All (λ m. m < 2 ^ 64)) counts) where
  caps_form : AreCapsInForm p.links (whole_caps (capacities p.links counts))
  caps_form = record {
    positive = omega arith;
    scale = omega arith;
    nums = record {
      long = capacities_long p.links counts shape;
      each = All-from_recursion (λ (m : ℕ). m < 2 ^ 126) (capacities p.links counts)
          (caps_limit (length p.nodes) p.links counts (recursion_from_All (IsLink (length p.nodes)) p.links links) (recursion_from_All (All (λ (m : ℕ). m < 2 ^ 64)) counts low));
    };
  }

  route_form : (state : StateId) (basis : List RouteColumn) (kind : WideKind RouteColumn) → state.0 ≤ length p.listed
      → IsRouteEvidence (graph_in p state.0) p.demands (whole_caps (capacities p.links counts)) basis kind
      → IsRouteEvidenceInForm (known_to p) p.demands state (whole_caps (capacities p.links counts)) basis kind
  route_form state basis kind listed is =
      let g = graph_in p state.0 in
      record {
        state_listed = listed;
        capacities = caps_form;
        long = is.evidence.named.count;
        columns = names_form g p.demands demands (whole_caps (capacities p.links counts)) is.basis basis is.evidence.named is.evidence.feasible;
        wide = kind_form g p.demands demands (whole_caps (capacities p.links counts)) is.basis kind is.evidence.holds;
      }

  here_form : (evidence : Evidence) (state : ℕ) → state ≤ length p.listed → IsEvidenceHere (graph_in p state) p.demands (whole_caps (capacities p.links counts)) evidence → IsEvidenceAt p counts evidence
  here_form (Route state caps basis kind) s listed is = (
    subst (λ (cs : Caps). IsRouteEvidenceInForm (known_to p) p.demands state cs basis kind) (sym is.1)
        (route_form state basis kind (omega (arith, listed, is.0)) (subst (λ (n : ℕ). IsRouteEvidence (graph_in p n) p.demands (whole_caps (capacities p.links counts)) basis kind) (sym is.0) is.2)),
    ap (λ (cs : Caps). cs.scale) is.1,
    ap (λ (cs : Caps). cs.nums) is.1,
  )
  here_form (Master basis kind) s listed is = is

  -- that a number is too wide at the capacities of counts
  pub wide_form : (evidence : Evidence) → IsWideSomewhere p (whole_caps (capacities p.links counts)) evidence → IsEvidenceAt p counts evidence
  wide_form evidence wide = here_form evidence wide.state wide.listed_state wide.here
