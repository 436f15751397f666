-- the rows of plans, and the sheet of a report
use Rattle.std.{specs.Prelude.{◌≡◌, ℕ, zero, suc, ◌+◌, List, [], ◌∷◌, ◌++◌, length, map, slice_get}, specs.Option.option_map_or}
use Rattle.plan_view.{specs.Terms.{flow_row, AreLinkRows, AreStateRows, case_of_plan}, specs.declared.rows.LinkRow.LinkRow, specs.declared.rows.StateRow.StateRow, specs.declared.sheet.Sheet.Sheet, specs.declared.sheet.Sheet.TheVariants.{Links, States, Flows}}
use Rattle.plan_report.specs.Terms.{known_to, Plan, Outcome, Planned, Unsurvivable}
use Rattle.plan_terms.specs.Terms.{Case, Routing}
use Rattle.view_csv.{specs.CommaSeparated.csv_text, specs.Columns.sheet_columns, specs.Fields.{flow_fields, link_fields, state_fields, with_plan}}

-- the fields of all links of a plan, in order
pub record AreLinkFields (p : Case) (caller serial : ℕ) (plan : Plan) (all : List (List (List ℕ))) : Type 0 where
  pub rows : List LinkRow
  pub are : AreLinkRows p.links plan (length p.links) rows
  pub shown : all ≡ map (λ row. with_plan caller serial (link_fields (known_to p) row)) rows

-- the fields of all states of a plan, in order
pub record AreStateFields (p : Case) (caller serial : ℕ) (plan : Plan) (all : List (List (List ℕ))) : Type 0 where
  pub rows : List StateRow
  pub are : AreStateRows p plan (length p.listed + 1) rows
  pub shown : all ≡ map (λ row. with_plan caller serial (state_fields (known_to p) row)) rows

-- the fields of the flows of a routing, in order
abbrev pub flows_of_routing : Case → ℕ → ℕ → ℕ → Routing → List (List (List ℕ))
flows_of_routing p caller serial s routing =
    map (λ row. with_plan caller serial (flow_fields (known_to p) p.demands s row)) (map (flow_row p.links p.demands routing.den) routing.flows)

-- the fields of the flows of a plan in state s
abbrev pub flows_of_state : Case → ℕ → ℕ → Plan → ℕ → List (List (List ℕ))
flows_of_state p caller serial plan s = option_map_or (λ routing. flows_of_routing p caller serial s routing) (slice_get plan.routings s) []

-- the same of the first n states
abbrev pub flows_of_states : Case → ℕ → ℕ → Plan → ℕ → List (List (List ℕ))
flows_of_states p caller serial plan zero = []
flows_of_states p caller serial plan (suc s) = flows_of_states p caller serial plan s ++ flows_of_state p caller serial plan s

-- the rows of a plan
abbrev pub ShowsPlan : Sheet → Case → ℕ → ℕ → Plan → List (List (List ℕ)) → Type 0
ShowsPlan Links p caller serial plan all = AreLinkFields p caller serial plan all
ShowsPlan States p caller serial plan all = AreStateFields p caller serial plan all
ShowsPlan Flows p caller serial plan all = all ≡ flows_of_states p caller serial plan (length p.listed + 1)

-- the rows of an outcome: those of its plan, with the demands that it is of; none where it has no plan
abbrev pub ShowsOutcome : Sheet → Case → Outcome → List (List (List ℕ)) → Type 0
ShowsOutcome sheet p (Planned caller serial plan) all = ShowsPlan sheet (case_of_plan p plan) caller serial plan all
ShowsOutcome sheet p (Unsurvivable caller serial version position state demand) all = all ≡ []

-- the rows of several outcomes, in their order
abbrev pub AreOutcomeRows : Sheet → Case → List Outcome → List (List (List ℕ)) → Type 0
AreOutcomeRows sheet p [] all = all ≡ []
AreOutcomeRows sheet p (outcome ∷ outcomes) all =
    (first : List (List (List ℕ))) × (rest : List (List (List ℕ))) × ShowsOutcome sheet p outcome first × AreOutcomeRows sheet p outcomes rest
    × (all ≡ first ++ rest)

-- rows of this kind were put after what was there
abbrev pub AddsRows : (List (List (List ℕ)) → Type 0) → List (List (List ℕ)) → List (List (List ℕ)) → Type 0
AddsRows AreRows old new = (all : List (List (List ℕ))) × AreRows all × (new ≡ old ++ all)

-- The text of a sheet has a line of the columns' names and then each row of the outcomes, once and in order, and nothing else.
pub record IsSheet (sheet : Sheet) (p : Case) (outcomes : List Outcome) (text : List ℕ) : Type 0 where
  pub rows : List (List (List ℕ))
  pub are : AreOutcomeRows sheet p outcomes rows
  pub printed : text ≡ csv_text (sheet_columns sheet ∷ rows)
