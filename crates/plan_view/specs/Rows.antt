-- what the rows of a plan say: each number is a definition's
use Rattle.std.{specs.Prelude.{◌≡◌, ℕ, zero, suc, ◌+◌, ◌*◌, ◌/◌, List, [], Option, None, Some, length, slice_get, slice_index, sum_by}, specs.Option.option_map_or}
use Rattle.plan_terms.specs.Terms.{Case, Link, LinkId, Listed, Routing, capacities, link_cost, load, modules_capacity, raw_value, sum_below, total_cost}
use Rattle.plan_types.{specs.Terms.lines_of_certificate, specs.declared.plan.Plan.Plan}
use Rattle.plan_view.{specs.Loads.{IsFirstOfGreatest, IsFullestLink, den_in, load_in, routing_in}, specs.Parts.{IsGap, paid_by}, specs.Reroutes.rerouted, specs.Rounding.{IsCeiling, IsNearest}, specs.declared.rows.LinkRow.LinkRow, specs.declared.rows.LoadRow.LoadRow, specs.declared.rows.PlanSummary.PlanSummary, specs.declared.rows.StateRow.StateRow}

-- the row of link e, which is l with these counts: its greatest load is that of the first state of greatest load
pub record IsLinkRow (plan : Plan) (l : Link) (counts : List ℕ) (e : ℕ) (row : LinkRow) : Type 0 where
  pub link : row.link.0 ≡ e
  pub modules : row.modules ≡ counts
  pub capacity : row.capacity ≡ l.fixed + modules_capacity l.modules counts
  pub normal : IsCeiling (load_in plan.routings 0 e) (den_in plan.routings 0) row.normal
  pub state : IsFirstOfGreatest (length plan.routings) (λ s. load_in plan.routings s e) (den_in plan.routings) row.state.0
  pub worst : IsCeiling (load_in plan.routings row.state.0 e) (den_in plan.routings row.state.0) row.worst
  pub used : IsCeiling (100 * load_in plan.routings row.state.0 e) (row.capacity * den_in plan.routings row.state.0) row.used
  pub cost : row.cost ≡ link_cost l counts

-- the row of link e, whatever link and counts are there
abbrev pub IsRowAt : List Link → Plan → ℕ → LinkRow → Type 0
IsRowAt links plan e row = (l : Link) (counts : List ℕ) → slice_get links e ≡ Some l → slice_get plan.counts e ≡ Some counts → IsLinkRow plan l counts e row

-- the rows of the first n links, in their order
pub record AreLinkRows (links : List Link) (plan : Plan) (n : ℕ) (rows : List LinkRow) : Type 0 where
  pub long : length rows ≡ n
  pub each : (e : ℕ) (row : LinkRow) → slice_get rows e ≡ Some row → IsRowAt links plan e row

-- the links that state s fails
abbrev pub failed_links : List Listed → ℕ → List LinkId
failed_links listed zero = []
failed_links listed (suc i) = option_map_or (λ l. l.links) (slice_get listed i) []

-- the use of the fullest link, in per cent and rounded up; 0 where there is none
abbrev pub IsUseOf : Routing → List ℕ → Option LinkId → ℕ → Type 0
IsUseOf routing capacities None used = used ≡ 0
IsUseOf routing capacities (Some e) used = IsCeiling (100 * load routing.flows e.0) (slice_index capacities e.0 * routing.den) used

-- the row of state s
pub record IsStateRow (p : Case) (plan : Plan) (s : ℕ) (row : StateRow) : Type 0 where
  pub state : row.state.0 ≡ s
  pub failed : row.failed ≡ failed_links p.listed s
  pub rerouted : IsCeiling (rerouted (routing_in plan.routings 0) (routing_in plan.routings s) (routing_in plan.routings s).flows)
      (den_in plan.routings s * den_in plan.routings 0) row.rerouted
  pub fullest : IsFullestLink (length p.links) (load_in plan.routings s) (slice_index (capacities p.links plan.counts)) row.fullest
  pub used : IsUseOf (routing_in plan.routings s) (capacities p.links plan.counts) row.fullest row.used
  pub part : IsNearest (1000 * paid_by p.links plan.certificate s) (raw_value p.links (lines_of_certificate plan.certificate)) row.part

-- the rows of the first n states, in their order, the one without failures first
pub record AreStateRows (p : Case) (plan : Plan) (n : ℕ) (rows : List StateRow) : Type 0 where
  pub long : length rows ≡ n
  pub each : (s : ℕ) (row : StateRow) → slice_get rows s ≡ Some row → IsStateRow p plan s row

-- the row of link e in one state, where this is its routing
pub record IsLoadRow (capacities : List ℕ) (routing : Routing) (e : ℕ) (row : LoadRow) : Type 0 where
  pub link : row.link.0 ≡ e
  pub carried : IsCeiling (load routing.flows e) routing.den row.load
  pub used : IsCeiling (100 * load routing.flows e) (slice_index capacities e * routing.den) row.used

-- the rows of the first n links in one state, in their order
pub record AreLoadRows (capacities : List ℕ) (routing : Routing) (n : ℕ) (rows : List LoadRow) : Type 0 where
  pub long : length rows ≡ n
  pub each : (e : ℕ) (row : LoadRow) → slice_get rows e ≡ Some row → IsLoadRow capacities routing e row

-- the numbers of the whole plan; its cost is what the links cost together
pub record IsPlanSummary (p : Case) (plan : Plan) (whole : PlanSummary) : Type 0 where
  pub cost : whole.cost ≡ total_cost p.links plan.counts
  pub bound : whole.bound ≡ plan.bound
  pub raw : whole.raw ≡ plan.raw_num / plan.raw_den
  pub gap : IsGap plan.cost plan.bound whole.gap
  pub capacity : whole.capacity ≡ sum_by (λ n. n) (capacities p.links plan.counts)
  pub normal : IsCeiling (sum_below (length p.links) (load_in plan.routings 0)) (den_in plan.routings 0) whole.normal
  pub states : whole.states ≡ length p.listed + 1
