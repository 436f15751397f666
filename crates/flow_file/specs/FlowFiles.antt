-- the grammar of a file of flows: counts of modules for each link, and flows on links for each state
use Rattle.std.specs.Prelude.{◌≡◌, ℕ, ◌+◌, ◌^◌, ◌<◌, ◌≤◌, List, [], ◌∷◌, ◌++◌, length, All, flat_map, zip, codes}
use Rattle.plan_terms.specs.Terms.{Demand, Link, AreCounts, AreWithinLimits}
use Rattle.path_split.specs.Balances.{IsArc}
use Rattle.text_kit.specs.Terms.{section, SpellsAs, Item, Verbatim, Money}
use Rattle.plan_report.specs.Terms.{modules_items, numbered_from, KnownNames, demand_name, link_name, node_name, state_name}
use Rattle.net_core.specs.Limits.{most_flows}
use Rattle.flow_file.{specs.declared.flow.FlowFile.FlowFile, specs.declared.flow.LinkFlow.LinkFlow}

-- the first line of a file of flows
abbrev pub flows_header : List ℕ
flows_header = codes "?planner flows; version: 1"

-- a flow: its demand, its link, the node at which it enters the link, and its amount
abbrev pub link_flow_items : KnownNames → List Demand → LinkFlow → List Item
link_flow_items known demands f =
    Verbatim (demand_name demands f.demand) ∷ Verbatim (link_name known.links f.arc.link) ∷ Verbatim (node_name known.nodes f.arc.from)
    ∷ Money known.places f.arc.num ∷ []

-- the flows of a state, by its number: the state's name, and its flows between parentheses
abbrev pub state_flows_items : KnownNames → List Demand → ℕ × List LinkFlow → List Item
state_flows_items known demands p = section (state_name known.listed p.0) (flat_map (link_flow_items known demands) p.1)

-- a whole file
abbrev pub flow_file_items : KnownNames → List Demand → FlowFile → List Item
flow_file_items known demands file =
    section (codes "MODULES") (flat_map modules_items (zip known.links file.counts))
    ++ section (codes "FLOWS") (flat_map (state_flows_items known demands) (numbered_from 0 file.flows))

-- a positive flow of a demand from an end of a link, below 2^40 units
pub record IsLinkFlow (links : List Link) (demands : List Demand) (f : LinkFlow) : Type 0 where
  pub demand : f.demand < length demands
  pub arc : IsArc links f.arc
  pub positive : 0 < f.arc.num
  pub small : f.arc.num < 2 ^ 40

-- the flows of a state, at most 65,536
abbrev pub AreLinkFlows : List Link → List Demand → List LinkFlow → Type 0
AreLinkFlows links demands flows = (length flows ≤ most_flows) × All (IsLinkFlow links demands) flows

-- counts for each link within their limits, and flows for each state
pub record IsFlowFile (known : KnownNames) (demands : List Demand) (file : FlowFile) : Type 0 where
  pub counts : AreCounts known.links file.counts
  pub limits : AreWithinLimits known.links file.counts
  pub states : length file.flows ≡ length known.listed + 1
  pub each : All (AreLinkFlows known.links demands) file.flows

-- the bytes of a file spell these counts and flows
abbrev pub SpellsFlows : KnownNames → List Demand → List ℕ → FlowFile → Type 0
SpellsFlows known demands bytes file = SpellsAs flows_header (flow_file_items known demands) (IsFlowFile known demands) (λ f. f) bytes file
