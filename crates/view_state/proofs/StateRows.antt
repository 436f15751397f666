-- the tables of a state, part after part
use Rattle.std.{proofs.Common.{◌≡◌, ◌≤◌, ℕ, List, [], ◌∷◌, ◌++◌, codes, length, map, refl}, proofs.lemmas.Option.slice_get_past}
use Rattle.plan_view.{specs.declared.link_flows.FlowRow.FlowRow, specs.Terms.{AreLoadRows, routing_in, case_of_plan}, specs.declared.rows.LoadRow.LoadRow}
use Rattle.plan_terms.specs.Terms.{Case, capacities}
use Rattle.plan_types.specs.declared.plan.Plan.{Plan}
use Rattle.text_kit.specs.Terms.{AddsText}
use Rattle.view_cells.{specs.Terms.HasRows, proofs.Lemmas.{appended, appended_three}}
use Rattle.view_state.{specs.StateTables.{load_cells, load_heads, path_cells, path_heads}, specs.StateViews.{HasStateTables, ShowsPlanState, ShowsStateRows, outcome_line, state_flows}}

-- a state without a routing has no flows
pub none_flow : (p : Case) (plan : Plan) (s : ℕ) → length plan.routings ≤ s → [] ≡ state_flows p plan s
none_flow p plan s past = rw (slice_get_past plan.routings s past) refl

pub rows_shown : (p : Case) (loads : List LoadRow) (flows : List FlowRow) (old above below first second new : List ℕ)
    → HasRows (load_heads ∷ map (load_cells p.places p.nodes p.links) loads) above
    → HasRows (path_heads ∷ map (path_cells p.places p.nodes p.demands) flows) below
    → first ≡ old ++ above → second ≡ first ++ codes "\n" → new ≡ second ++ below
    → AddsText (ShowsStateRows p loads flows) old new
rows_shown p loads flows old above below first second new hl hp q r s = (
  above ++ codes "\n" ++ below,
  record { links_part = above; paths_part = below; has_links = hl; has_paths = hp; printed = refl },
  appended_three old above (codes "\n") below first second new q r s,
)

pub tables_shown : (p : Case) (plan : Plan) (s : ℕ) (loads : List LoadRow) (old new : List ℕ)
    → AreLoadRows (capacities p.links plan.counts) (routing_in plan.routings s) (length p.links) loads
    → AddsText (ShowsStateRows p loads (state_flows p plan s)) old new → AddsText (HasStateTables p plan s) old new
tables_shown p plan s loads old new are shown = (shown.0, record { loads = loads; are = are; shown = shown.1 }, shown.2)

pub plan_shown : (p : Case) (s caller serial : ℕ) (plan : Plan) (old mid new : List ℕ) → mid ≡ old ++ outcome_line caller serial (codes "\n\n")
    → AddsText (HasStateTables (case_of_plan p plan) plan s) mid new → AddsText (ShowsPlanState p s caller serial plan) old new
plan_shown p s caller serial plan old mid new line tables = (
  outcome_line caller serial (codes "\n\n") ++ tables.0,
  (tables.0, tables.1, refl),
  appended old (outcome_line caller serial (codes "\n\n")) tables.0 mid new line tables.2,
)
