-- Reading routings, one for each state.
use Rattle.std.specs.Prelude.{◌+◌, ◌^◌, List, [], length, codes}
use Rattle.plan_terms.specs.Terms.{Demand, LinkId, Link, Flow, Routing}
use Rattle.text_kit.specs.Terms.{Reading, ◌>>=◌, give, list_at, no_fault, not_empty, of_length, Parenthesis}
use Rattle.plan_report.specs.Terms.{state_name, KnownNames}
use Rattle.report_words.{specs.declared.fault.ReportKind.ReportKind, specs.declared.fault.ReportKind.TheVariants.{Token, Limit}, specs.Terms.{demand_within, has_room, keyword_within, link_at, number_at, opening_at, this_name_at, this_number_at}}
use Rattle.net_core.specs.Limits.{most_flows}

-- a path: one link or more
unfoldable pub path_at : List Link → Reading ReportKind (List LinkId)
path_at links = opening_at >>= λ _. list_at Parenthesis (not_empty Token) (λ sofar. link_at links) []

-- a flow after earlier ones
unfoldable pub flow_at : List Link → List Demand → List Flow → Reading ReportKind Flow
flow_at links demands sofar = do
  demand ← demand_within (has_room most_flows sofar) demands
  num ← number_at 1 (2 ^ 124)
  path ← path_at links
  give (record { demand = demand; path = path; num = num })

-- the routing of a state, after those of the states before it
unfoldable pub routing_at : KnownNames → List Demand → List Routing → Reading ReportKind Routing
routing_at names demands sofar = do
  _ ← keyword_within (has_room (length names.listed + 1) sofar) (codes "state")
  _ ← this_number_at (length sofar)
  _ ← this_name_at (state_name names.listed (length sofar))
  den ← number_at 1 (2 ^ 62)
  _ ← opening_at
  flows ← list_at Parenthesis no_fault (flow_at names.links demands) []
  give (record { den = den; flows = flows })

unfoldable pub routings_at : KnownNames → List Demand → Reading ReportKind (List Routing)
routings_at names demands = opening_at >>= λ _. list_at Parenthesis (of_length (length names.listed + 1) Limit) (routing_at names demands) []
