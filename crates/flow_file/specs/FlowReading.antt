-- Reading a file of flows from left to right: the tests of its words, and their order.
use Rattle.std.specs.Prelude.{ℕ, ◌+◌, ◌==◌, ◌||◌, nat_lt, if◌then◌else◌, List, [], length, Option, None, Some, Result, Ok, Err, slice_get, codes}
use Rattle.plan_terms.specs.Terms.{Demand, NodeId, Link, Places}
use Rattle.snd_tokens.specs.Terms.{amount_of}
use Rattle.text_kit.specs.Terms.{file_at, number_or, Read, Reading, ◌>>=◌, expected, give, list_at, mapped, no_fault, of_length, open_at, Parenthesis, whole_at, word_at}
use Rattle.plan_report.specs.Terms.{KnownNames, state_name}
use Rattle.report_words.{specs.declared.fault.ReportKind.ReportKind, specs.Terms.{demand_of, has_room, link_at, node_of_word, this_name_at, where_room}}
use Rattle.report_parts.specs.ReadingParts.{all_counts_at}
use Rattle.net_core.specs.Limits.{most_flows}
use Rattle.flow_file.{specs.declared.fault.FlowsKind.FlowsKind, specs.declared.fault.FlowsKind.TheVariants.{Header, Section, Token, Ended, Number, ZeroFlow, UnknownName, Limit}, specs.declared.flow.FlowFile.FlowFile, specs.declared.flow.LinkFlow.LinkFlow, specs.FlowFiles.flows_header, specs.FlowKinds.{flows_kind, told_at}}
use Rattle.report_words.specs.declared.fault.ReportKind.TheVariants as report

-- ---- words

-- a demand, where there is room for a flow
abbrev pub flow_demand_at : List Demand → List LinkFlow → Reading ReportKind ℕ
flow_demand_at demands sofar = word_at report.Token report.Ended (λ w. where_room (has_room most_flows sofar) (demand_of demands w))

-- a node, where it is an end of the link
abbrev pub end_or_fault : Option Link → Result NodeId ReportKind → Result NodeId FlowsKind
end_or_fault (Some l) (Ok n) = if (l.a.0 == n.0) || (l.b.0 == n.0) then Ok n else Err UnknownName
end_or_fault None (Ok n) = Err UnknownName
end_or_fault o (Err kind) = Err (flows_kind kind)

-- the end of a link that a word names
abbrev pub end_of : List (List ℕ) → Option Link → List ℕ → Result NodeId FlowsKind
end_of nodes o w = end_or_fault o (node_of_word nodes w)

-- an amount that isn't 0
abbrev pub above_zero : Result ℕ FlowsKind → Result ℕ FlowsKind
above_zero (Ok n) = if nat_lt 0 n then Ok n else Err ZeroFlow
above_zero (Err kind) = Err kind

-- the amount of a flow, in units of the network
abbrev pub flow_amount : Places → List ℕ → Result ℕ FlowsKind
flow_amount p w = above_zero (number_or Number (amount_of p w))

-- ---- the order of words

-- a flow after earlier ones
unfoldable pub link_flow_at : KnownNames → List Demand → List LinkFlow → Reading FlowsKind LinkFlow
link_flow_at known demands sofar = do
  demand ← told_at (flow_demand_at demands sofar)
  link ← told_at (link_at known.links)
  from ← word_at Token Ended (end_of known.nodes (slice_get known.links link.0))
  num ← word_at Token Ended (flow_amount known.places)
  give (record { demand = demand; arc = record { link = link; from = from; num = num } })

-- the flows of a state after those of earlier states
unfoldable pub state_flows_at : KnownNames → List Demand → List (List LinkFlow) → Reading FlowsKind (List LinkFlow)
state_flows_at known demands sofar = do
  _ ← told_at (this_name_at (state_name known.listed (length sofar)))
  _ ← open_at Token Ended
  list_at Parenthesis no_fault (link_flow_at known demands) []

-- the flows of further states, up to the closing parenthesis
abbrev pub states_flows_at : KnownNames → List Demand → List (List LinkFlow) → Reading FlowsKind (List (List LinkFlow))
states_flows_at known demands sofar = list_at Parenthesis (of_length (length known.listed + 1) Limit) (state_flows_at known demands) sofar

-- the word of a section
abbrev pub section_word_at : List ℕ → Reading FlowsKind (Unit {0})
section_word_at w = word_at Section Ended (expected Section w)

-- both sections
unfoldable pub flow_sections_at : KnownNames → List Demand → Reading FlowsKind FlowFile
flow_sections_at known demands = do
  _ ← section_word_at (codes "MODULES")
  _ ← open_at Section Ended
  counts ← told_at (all_counts_at known.links)
  _ ← section_word_at (codes "FLOWS")
  _ ← open_at Section Ended
  flows ← states_flows_at known demands []
  give (record { counts = counts; flows = flows })

-- all of the text
abbrev pub flows_at : KnownNames → List Demand → Reading FlowsKind FlowFile
flows_at known demands = whole_at Section (flow_sections_at known demands)

-- a whole file: its counts and flows, or its first fault by place
abbrev pub flows_of : KnownNames → List Demand → List ℕ → Read FlowsKind FlowFile
flows_of known demands bytes = file_at Header flows_header (mapped (λ f. f) (flows_at known demands)) bytes
