-- the names of columns
use Rattle.std.specs.Prelude.{ℕ, List, [], ◌∷◌, codes}
use Rattle.plan_view.{specs.declared.sheet.Sheet.Sheet, specs.declared.sheet.Sheet.TheVariants.{Links, States, Flows}}

-- of links
abbrev pub link_columns : List (List ℕ)
link_columns =
    codes "caller" ∷ codes "plan" ∷ codes "link" ∷ codes "from" ∷ codes "to" ∷ codes "modules" ∷ codes "capacity" ∷ codes "normal" ∷ codes "worst"
    ∷ codes "used_percent" ∷ codes "state" ∷ codes "cost" ∷ []

-- of states
abbrev pub state_columns : List (List ℕ)
state_columns =
    codes "caller" ∷ codes "plan" ∷ codes "state" ∷ codes "links_out" ∷ codes "rerouted" ∷ codes "fullest_link" ∷ codes "used_percent"
    ∷ codes "bound_percent" ∷ []

-- of flows
abbrev pub flow_columns : List (List ℕ)
flow_columns =
    codes "caller" ∷ codes "plan" ∷ codes "state" ∷ codes "demand" ∷ codes "from" ∷ codes "to" ∷ codes "amount" ∷ codes "nodes" ∷ codes "links" ∷ []

-- of a sheet
abbrev pub sheet_columns : Sheet → List (List ℕ)
sheet_columns Links = link_columns
sheet_columns States = state_columns
sheet_columns Flows = flow_columns
