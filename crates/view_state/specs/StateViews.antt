-- what people read of one state of the plans of a report
use Rattle.std.{specs.Prelude.{◌≡◌, ℕ, List, [], ◌∷◌, ◌++◌, codes, decimal, length, map, slice_get}, specs.Option.option_map_or}
use Rattle.plan_view.{specs.Terms.{flow_row, AreLoadRows, routing_in, case_of_plan}, specs.declared.link_flows.FlowRow.FlowRow, specs.declared.rows.LoadRow.LoadRow}
use Rattle.plan_terms.specs.Terms.{Case, Routing, capacities}
use Rattle.plan_report.specs.Terms.{Plan, Outcome, Planned, Unsurvivable}
use Rattle.view_cells.specs.Terms.{HasRows}
use Rattle.view_state.{specs.StateHeadings.state_heading, specs.StateTables.{load_cells, load_heads, path_cells, path_heads}}

-- the text has these rows of a state: what links carry, and paths that demands take
pub record ShowsStateRows (p : Case) (loads : List LoadRow) (flows : List FlowRow) (text : List ℕ) : Type 0 where
  pub links_part : List ℕ
  pub paths_part : List ℕ
  pub has_links : HasRows (load_heads ∷ map (load_cells p.places p.nodes p.links) loads) links_part
  pub has_paths : HasRows (path_heads ∷ map (path_cells p.places p.nodes p.demands) flows) paths_part
  pub printed : text ≡ links_part ++ codes "\n" ++ paths_part

-- the rows of a plan's flows in state s, in the order of its routing
abbrev pub state_flows : Case → Plan → ℕ → List FlowRow
state_flows p plan s = option_map_or (λ (routing : Routing). map (flow_row p.links p.demands routing.den) routing.flows) (slice_get plan.routings s) []

-- The tables of a plan in state s: what each link carries there, each once and in order, and each path that a demand takes there.
pub record HasStateTables (p : Case) (plan : Plan) (s : ℕ) (text : List ℕ) : Type 0 where
  pub loads : List LoadRow
  pub are : AreLoadRows (capacities p.links plan.counts) (routing_in plan.routings s) (length p.links) loads
  pub shown : ShowsStateRows p loads (state_flows p plan s) text

-- the line above an outcome, with this end
abbrev pub outcome_line : ℕ → ℕ → List ℕ → List ℕ
outcome_line caller serial end = codes "\n  Caller " ++ decimal caller ++ codes ", plan " ++ decimal serial ++ end

-- a plan in state s: the line of its numbers, and its tables, with the demands that it is of
abbrev pub ShowsPlanState : Case → ℕ → ℕ → ℕ → Plan → List ℕ → Type 0
ShowsPlanState p s caller serial plan text =
    (tables : List ℕ) × HasStateTables (case_of_plan p plan) plan s tables × (text ≡ outcome_line caller serial (codes "\n\n") ++ tables)

-- an outcome in state s
abbrev pub ShowsState : Case → ℕ → Outcome → List ℕ → Type 0
ShowsState p s (Planned caller serial plan) text = ShowsPlanState p s caller serial plan text
ShowsState p s (Unsurvivable caller serial version position state demand) text = text ≡ outcome_line caller serial (codes ": no plan\n")

-- several outcomes, in their order
abbrev pub AreStateTexts : Case → ℕ → List Outcome → List ℕ → Type 0
AreStateTexts p s [] text = text ≡ []
AreStateTexts p s (outcome ∷ outcomes) text =
    (first : List ℕ) × (rest : List ℕ) × ShowsState p s outcome first × AreStateTexts p s outcomes rest × (text ≡ first ++ rest)

-- The view of a report in state s, of a network's file of this name: the first line, and each outcome.
pub record IsStateView (network : List ℕ) (p : Case) (s : ℕ) (outcomes : List Outcome) (text : List ℕ) : Type 0 where
  pub body : List ℕ
  pub are : AreStateTexts p s outcomes body
  pub printed : text ≡ state_heading network p s ++ body
