-- what people read of a flow
use Rattle.std.{specs.Prelude.{ℕ, ◌+◌, ◌/◌, ◌%◌, List, [], ◌∷◌, cond, min, nat_eq, slice_get}, specs.Option.option_map_or}
use Rattle.plan_terms.specs.Terms.{Demand, Flow, Link, LinkId, NodeId}
use Rattle.plan_view.specs.declared.link_flows.FlowRow.{FlowRow}

-- the end of link e that isn't n; where there is no such link, n
abbrev pub end_beyond : List Link → NodeId → LinkId → NodeId
end_beyond links n e = option_map_or (λ l. cond (nat_eq l.a.0 n.0) l.b l.a) (slice_get links e.0) n

-- the nodes of a path, from n on
abbrev pub nodes_along : List Link → NodeId → List LinkId → List NodeId
nodes_along links n [] = n ∷ []
nodes_along links n (e ∷ es) = n ∷ nodes_along links (end_beyond links n e) es

-- the first end of demand k; node 0 where there is none
abbrev pub start_of : List Demand → ℕ → NodeId
start_of demands k = option_map_or (λ d. d.from) (slice_get demands k) (record { 0 = 0 })

-- num over den, rounded up; anything over 0 is 0
abbrev pub rounded_over : ℕ → ℕ → ℕ
rounded_over num den = cond (nat_eq den 0) 0 (num / den + min 1 (num % den))

-- the row of a flow over a denominator
abbrev pub flow_row : List Link → List Demand → ℕ → Flow → FlowRow
flow_row links demands den f = record {
  demand = f.demand;
  amount = rounded_over f.num den;
  path = f.path;
  nodes = nodes_along links (start_of demands f.demand) f.path;
}
