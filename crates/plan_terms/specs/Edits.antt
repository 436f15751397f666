-- edits of demands: what each is answered, and the demands after it
use Rattle.std.specs.Prelude.{ℕ, ◌+◌, ◌-◌, ◌^◌, List, [], ◌∷◌, ◌++◌, Bool, Option, None, Some, cond, filter, length, map, min, nat_le, nat_lt, not, ◌&&◌, position, unwrap_or}
use Rattle.net_core.{specs.declared.demand.Demand.Demand, specs.declared.journal.Edit.Edit, specs.declared.journal.Edit.TheVariants.{Set, Add, Drop}, specs.declared.journal.Reply.Reply, specs.declared.journal.Reply.TheVariants.{Accepted, UnknownDemand, KnownDemand, UnknownNode, SelfDemand, TooMany, TooMuch}, specs.Terms.{first_fault, are_same, is_named, total_need}}

-- the reply, and the demands after the edit
abbrev pub Answered : Type 0
Answered = Reply × List Demand

-- a demand has the name
abbrev pub is_demand : List ℕ → List Demand → Bool
is_demand name demands = is_named (λ d. d.name) name demands

-- the next version; the greatest number that a version can have stays
abbrev pub next_version : ℕ → ℕ
next_version version = min (version + 1) (2 ^ 64 - 1)

-- the demands become these, unless all needs together are then 2^44 units or more
abbrev pub within_total : List Demand → ℕ → List Demand → Answered
within_total demands version new =
    cond (nat_lt (total_need new) (2 ^ 44)) (Accepted (next_version version), new) (TooMuch (total_need new), demands)

-- the demands, of which that of this name has this need
abbrev pub set_need : List ℕ → ℕ → List Demand → List Demand
set_need name need demands = map (λ d. cond (are_same d.name name) (record { name = d.name; from = d.from; to = d.to; need = need }) d) demands

-- the demands but that of this name
abbrev pub without : List ℕ → List Demand → List Demand
without name demands = filter (λ d. not (are_same d.name name)) demands

-- the place of the node of this name; that of no node where there is none
abbrev pub node_of : List (List ℕ) → List ℕ → ℕ
node_of nodes name = unwrap_or (position (λ n. are_same n name) nodes) (length nodes)

-- why the demand can't be added: the tests in order
abbrev pub add_fault : List (List ℕ) → List Demand → List ℕ → List ℕ → List ℕ → Option Reply
add_fault nodes demands name from to = first_fault (
    (is_demand name demands, KnownDemand)
    ∷ (not (is_named (λ n. n) from nodes && is_named (λ n. n) to nodes), UnknownNode)
    ∷ (are_same from to, SelfDemand)
    ∷ (nat_le 2048 (length demands), TooMany)
    ∷ [])

-- the fault, or else the new demand after the others
abbrev pub added : List Demand → ℕ → Demand → Option Reply → Answered
added demands version new (Some fault) = (fault, demands)
added demands version new None = within_total demands version (demands ++ new ∷ [])

-- what an edit is answered where these are the nodes, the demands and their version
abbrev pub edit_reply : List (List ℕ) → List Demand → ℕ → Edit → Answered
edit_reply nodes demands version (Set name need) =
    cond (is_demand name demands) (within_total demands version (set_need name need demands)) (UnknownDemand, demands)
edit_reply nodes demands version (Drop name) =
    cond (is_demand name demands) (Accepted (next_version version), without name demands) (UnknownDemand, demands)
edit_reply nodes demands version (Add name from to need) =
    let new : Demand = record { name = name; from = record { 0 = node_of nodes from }; to = record { 0 = node_of nodes to }; need = need } in
    added demands version new (add_fault nodes demands name from to)

-- the version after a reply
abbrev pub version_after : ℕ → Reply → ℕ
version_after version (Accepted next) = next
version_after version _ = version

-- the need that an edit names
abbrev pub edit_need : Edit → ℕ
edit_need (Set name need) = need
edit_need (Add name from to need) = need
edit_need (Drop name) = 0
